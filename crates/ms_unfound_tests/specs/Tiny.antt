-- Rules over four atoms, three of which are heads.
use Rattle.std.specs.Prelude.{ℕ, ◌<◌, List, All, IfSome}
use Rattle.std.specs.List.Sorted.{IsStrictlyIncreasing}
use Rattle.ms_join.specs.declared.ground_rule.GroundRule.{GroundRule}
use Rattle.ms_join.specs.AnswerSets.{IsRuleOver}
use Rattle.ms_join.specs.Modules.{HasSets}

pub record IsTinySet (atoms : List ℕ) : Type 0 where
  pub within : All (λ a. a < 4) atoms
  pub rising : IsStrictlyIncreasing atoms

pub record IsTinyRule (rule : GroundRule) : Type 0 where
  pub over : IsRuleOver 4 rule
  pub sets : HasSets rule
  pub head : IfSome rule.head (λ h. h < 3)
