use Rattle.std.proofs.Common.{ℕ, ◌<◌, List, arith, sym, subst}
use Rattle.std.specs.Prelude.{All}
use Rattle.ms_unfound_tests.proofs.Benches.{AreAtoms, atoms_more, below_more, bench_begun}
use Rattle.ms_unfound_tests.proofs.bench.Bench.new.Goals as goal

pub loop-var-preserved : goal.loop-var-preserved
loop-var-preserved c =
    let is = c.in_ok-push.ensures.items in
    record {
      below = below_more c.args.vars c.loop-var.var c.loop-var.atoms.items c.push.new.self.items c.loop-var.invariant.below c.loop-var-test.true is;
      every = atoms_more c.loop-var.var c.loop-var.atoms.items c.push.new.self.items c.loop-var.invariant.every is;
    }

pub invariant_of-result : goal.invariant_of-result
invariant_of-result c =
    let same = sym c.from_vec.ensures in
    let most = c.loop-var-test.false in
    bench_begun c.args.vars c.from_vec.result c.new.result c.new-2.result c.new-2.ensures c.new.ensures.none (c.new.ensures.in_step c.new-2.result)
    (subst (All (λ (atom : ℕ). atom < c.args.vars)) same c.loop-var.invariant.below)
    (subst (AreAtoms c.args.vars) same (λ var lt. c.loop-var.invariant.every var (omega (arith, lt, most))))
