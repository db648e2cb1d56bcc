use Rattle.std.proofs.Common.{inl, inr, refl}
use Rattle.ms_nogood.specs.declared.kind.Kind.TheVariants.{Base, Kept}
use Rattle.ms_search_tests.proofs.Benches.{bench_added}
use Rattle.ms_search_tests.proofs.bench.Bench.add.Goals as goal

pub invariant_of-self : goal.invariant_of-self
invariant_of-self c =
    bench_added c.self.inside.vars c.self.inside.atoms c.self.inside.search c.self.inside.store c.add.new.self c.args.lits.now Kept c.in_ok-add.field-0
    c.self.invariant c.in_ok-add.ensures.added (inr refl) (c.in_order.ensures.within c.if-not-in_order.false)

pub invariant_of-self-in_ok-add-2 : goal.invariant_of-self-in_ok-add-2
invariant_of-self-in_ok-add-2 c =
    bench_added c.self.inside.vars c.self.inside.atoms c.self.inside.search c.self.inside.store c.add-else-kept.new.self c.args.lits.now Base c.in_ok-add-2.field-0
    c.self.invariant c.in_ok-add-2.ensures.added (inl refl) (c.in_order.ensures.within c.if-not-in_order.false)
