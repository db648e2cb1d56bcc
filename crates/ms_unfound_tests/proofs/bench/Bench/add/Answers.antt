use Rattle.std.proofs.Common.{inl, refl}
use Rattle.ms_nogood.specs.declared.kind.Kind.TheVariants.{Base}
use Rattle.ms_unfound_tests.proofs.Benches.{bench_added}
use Rattle.ms_unfound_tests.proofs.bench.Bench.add.Goals as goal

pub invariant_of-self-2 : goal.invariant_of-self-2
invariant_of-self-2 c =
    bench_added c.self.inside.vars c.self.inside.atoms c.self.inside.search c.self.inside.store c.add.new.self c.args.lits.now Base c.in_ok-add.field-0
    c.self.invariant c.in_ok-add.ensures.added (inl refl) (c.in_order.ensures.within c.if-not-in_order.false)
