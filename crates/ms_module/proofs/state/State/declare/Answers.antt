use Rattle.std.proofs.Common.{take, subst, sym, List, ℕ, ◌≤◌, ◌<◌, ◌++◌, ◌∷◌, []}
use Rattle.ms_join.specs.Modules.{Join, IsInput}
use Rattle.ms_module.specs.Inputs.{Declares}
use Rattle.ms_module.proofs.Changes.{next_atom, declares_more, declares_skip, not_yet}
use Rattle.ms_module.proofs.state.State.declare.Goals as goal
use Rattle.ms_module.proofs.state.State.declare.Goals.{then-first-a+in_ok-declare_one, else-first-a}

pub declare_one-requires-clause-new : goal.declare_one-requires-clause-new
declare_one-requires-clause-new c = subst (λ (a : ℕ). ¬ IsInput c.loop-a.self a) (sym c.a.view_is)
    (not_yet c.args.self.now c.loop-a.self c.args.first c.loop-a.a-index c.a-item.result c.args.atoms.now c.requires.atoms.rising c.requires.old c.loop-a.invariant
    c.loop-a-test.true c.a-item.is (subst (λ (a : ℕ). c.args.first ≤ a) c.a.view_is c.if-first-a.true))

pub loop-a-preserved : goal.loop-a-preserved
loop-a-preserved c = subst (λ (atoms : List ℕ). Declares c.args.self.now c.args.first atoms c.if-first-a.self)
    (sym (next_atom c.args.atoms.now c.loop-a.a-index c.a-item.result c.loop-a-test.true c.a-item.is))
    (elim c.if-first-a.branch [
      | then-first-a+in_ok-declare_one w ↦
          subst (λ (j : Join). Declares c.args.self.now c.args.first (take c.loop-a.a-index c.args.atoms.now ++ c.a-item.result ∷ []) j) (sym w.self-is)
          (subst (λ (a : ℕ). Declares c.args.self.now c.args.first (take c.loop-a.a-index c.args.atoms.now ++ a ∷ []) w.declare_one.new.self) c.a.view_is
          (declares_more c.args.self.now c.loop-a.self w.declare_one.new.self c.args.first c.a.inside.0 _ c.loop-a.invariant w.if-first-a.true w.in_ok-declare_one.ensures))
      | else-first-a w ↦
          subst (λ (j : Join). Declares c.args.self.now c.args.first (take c.loop-a.a-index c.args.atoms.now ++ c.a-item.result ∷ []) j) (sym w.self-is)
          (declares_skip c.args.self.now c.loop-a.self c.args.first c.a-item.result _ c.loop-a.invariant
          (subst (λ (a : ℕ). a < c.args.first) c.a.view_is w.if-first-a.false))
    ])
