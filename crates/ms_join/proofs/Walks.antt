-- Walks along the dependencies of rules.
use Rattle.std.proofs.Common.{ℕ, zero, suc, List, refl, subst}
use Rattle.ms_join.specs.declared.ground_rule.GroundRule.{GroundRule}
use Rattle.ms_join.specs.Dependencies.{Depends, Walk, Reaches}

pub reaches_self : (rules : List GroundRule) (a : ℕ) → Reaches rules a a
unfolding Walk
reaches_self rules a = record { steps = zero; walk = refl }

pub reaches_more : (rules : List GroundRule) (a b c : ℕ) → Reaches rules a b → Depends rules b c → Reaches rules a c
unfolding Walk
reaches_more rules a b c reaches depends = record { steps = suc reaches.steps; walk = (b, reaches.walk, depends) }

walk_joined : (rules : List GroundRule) (steps a b c : ℕ) → Reaches rules a b → Walk rules steps b c → Reaches rules a c
unfolding Walk
walk_joined rules zero a b c reaches walk = subst (λ x. Reaches rules a x) walk reaches
walk_joined rules (suc steps) a b c reaches walk =
    reaches_more rules a walk.0 c (walk_joined rules steps a b walk.0 reaches walk.1) walk.2

pub reaches_through : (rules : List GroundRule) (a b c : ℕ) → Reaches rules a b → Reaches rules b c → Reaches rules a c
reaches_through rules a b c first then = walk_joined rules then.steps a b c first then.walk
