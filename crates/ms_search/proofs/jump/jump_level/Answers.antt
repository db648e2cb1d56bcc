use Rattle.std.proofs.Common.{ℕ, ◌+◌, take, sym, subst}
use Rattle.std.proofs.lemmas.List.{get_or_default}
use Rattle.ms_search.proofs.Jumps.{AreReached, reached_between, reached_greater, reached_same}
use Rattle.ms_search.proofs.jump.jump_level.Goals as goal
use Rattle.ms_search.proofs.jump.jump_level.Goals.{then-level-greatest, else-level-greatest+then-level-second, else-level-greatest+else-level-second}

pub loop-lit-preserved : goal.loop-lit-preserved
loop-lit-preserved c =
    elim c.if-level-greatest.branch [
      | then-level-greatest w ↦
          subst (λ (s : ℕ). AreReached c.args.trail.now.entries (take (c.loop-lit.lit-index + 1) c.args.lits.now) c.if-level-greatest.greatest s) (sym w.second-is)
          (subst (λ (g : ℕ). AreReached c.args.trail.now.entries (take (c.loop-lit.lit-index + 1) c.args.lits.now) g c.loop-lit.greatest) (sym w.greatest-is)
          (reached_greater c.args.trail.now.entries c.args.lits.now c.loop-lit.lit-index c.loop-lit.greatest c.loop-lit.second _ c.reach-level.result c.requires.different c.loop-lit-test.true (get_or_default c.args.lits.now c.loop-lit.lit-index _ _ c.loop-lit-test.true) c.loop-lit.invariant c.reach-level.ensures w.if-level-greatest.true))
      | else-level-greatest+then-level-second w ↦
          subst (λ (s : ℕ). AreReached c.args.trail.now.entries (take (c.loop-lit.lit-index + 1) c.args.lits.now) c.if-level-greatest.greatest s) (sym w.second-is)
          (subst (λ (g : ℕ). AreReached c.args.trail.now.entries (take (c.loop-lit.lit-index + 1) c.args.lits.now) g c.reach-level.result) (sym w.greatest-is)
          (reached_between c.args.trail.now.entries c.args.lits.now c.loop-lit.lit-index c.loop-lit.greatest c.loop-lit.second _ c.reach-level.result c.requires.different c.loop-lit-test.true (get_or_default c.args.lits.now c.loop-lit.lit-index _ _ c.loop-lit-test.true) c.loop-lit.invariant c.reach-level.ensures w.if-level-greatest.false))
      | else-level-greatest+else-level-second w ↦
          subst (λ (s : ℕ). AreReached c.args.trail.now.entries (take (c.loop-lit.lit-index + 1) c.args.lits.now) c.if-level-greatest.greatest s) (sym w.second-is)
          (subst (λ (g : ℕ). AreReached c.args.trail.now.entries (take (c.loop-lit.lit-index + 1) c.args.lits.now) g c.loop-lit.second) (sym w.greatest-is)
          (reached_same c.args.trail.now.entries c.args.lits.now c.loop-lit.lit-index c.loop-lit.greatest c.loop-lit.second _ c.reach-level.result c.requires.different c.loop-lit-test.true (get_or_default c.args.lits.now c.loop-lit.lit-index _ _ c.loop-lit-test.true) c.loop-lit.invariant c.reach-level.ensures))
    ]
