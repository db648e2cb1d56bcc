-- The atoms that core rules over a base speak of.
-- Source: that an atom which no rule and no external gives is false is after Gebser, Kaminski, Kaufmann and Schaub,
-- "Multi-shot ASP solving with clingo" (2019). The exact sets are this project's.
use Rattle.std.specs.Prelude.{◌≡◌, Bool, true, false, ◌⊎◌, List, Some, Option, Any, Contains, option_and_then}
use Rattle.ms_tree.specs.Tree.{Tree}
use Rattle.ms_core.specs.declared.rule.RuleKind.{RuleKind}
use Rattle.ms_core.specs.declared.rule.RuleKind.TheVariants.{Normal, Choice, Constraint, External}
use Rattle.ms_core.specs.declared.rule.CoreRule.{CoreRule}
use Rattle.ms_copies.specs.Evaluating.{Chosen, value}
use Rattle.ms_copies.specs.Choosing.{IsCopy}

abbrev pub gives_head : RuleKind → Bool
gives_head Normal = true
gives_head Choice = true
gives_head Constraint = false
gives_head External = false

abbrev pub gives_external : RuleKind → Bool
gives_external Normal = false
gives_external Choice = false
gives_external Constraint = false
gives_external External = true

abbrev pub head_under : Chosen → CoreRule → Option Tree
head_under chosen rule = option_and_then (value chosen) rule.head

-- the term is the head of a copy of a rule of such a kind
abbrev pub IsHeadOf : (RuleKind → Bool) → List CoreRule → Tree → Type 0
IsHeadOf is_kind rules t = Any (λ rule. (is_kind rule.kind ≡ true) × ((chosen : Chosen) × IsCopy rule chosen × (head_under chosen rule ≡ Some t))) rules

-- The heads: those of the copies of normal rules and choices.
abbrev pub IsHead : List CoreRule → Tree → Type 0
IsHead rules t = IsHeadOf gives_head rules t

-- The declared externals.
abbrev pub IsExternal : List CoreRule → Tree → Type 0
IsExternal rules t = IsHeadOf gives_external rules t

-- The atoms of the base, the heads and the declared externals.
abbrev pub IsKnown : List Tree → List CoreRule → Tree → Type 0
IsKnown base rules t = Contains base t ⊎ (IsHead rules t ⊎ IsExternal rules t)
