-- The bodies of rules, where equal bodies are one.
use Rattle.std.specs.Prelude.{ℕ, ◌≡◌, ◌≢◌, ◌⊎◌, ◌++◌, List, [], All, AllPairs, Any, Contains, length}
use Rattle.ms_join.specs.declared.ground_rule.GroundRule.{GroundRule}
use Rattle.ms_join.specs.Things.{Body, body_of}
use Rattle.ms_module.specs.declared.bodies.BodyKey.{BodyKey}

-- rules without aggregates
abbrev pub ArePlain : List GroundRule → Type 0
ArePlain rules = All (λ rule. rule.aggs ≡ []) rules

-- the body of a key
abbrev pub shown : BodyKey → Body
shown key = record { pos = key.pos.items; neg = key.neg.items; aggs = [] }

abbrev pub IsBodyIn : List GroundRule → Body → Type 0
IsBodyIn rules b = Any (λ rule. body_of rule ≡ b) rules

-- The list has exactly the bodies of the rules.
pub record AreBodiesOf (bodies : List Body) (rules : List GroundRule) : Type 0 where
  pub each : (b : Body) → Contains bodies b → IsBodyIn rules b
  pub all : (b : Body) → IsBodyIn rules b → Contains bodies b

-- The new list has exactly the old bodies and those of the rules.
pub record AddsBodies (old : List Body) (rules : List GroundRule) (new : List Body) : Type 0 where
  pub each : (b : Body) → Contains new b → Contains old b ⊎ IsBodyIn rules b
  pub kept : (b : Body) → Contains old b → Contains new b
  pub all : (b : Body) → IsBodyIn rules b → Contains new b

-- These are the bodies of the rules that the old ones lack.
pub record AreMissing (old : List Body) (rules : List GroundRule) (missing : List Body) : Type 0 where
  pub adds : AddsBodies old rules (old ++ missing)
  pub lacks : (b : Body) → Contains missing b → ¬ Contains old b

-- the number of the old bodies and those of the rules, where equal bodies are one
pub record CountsBodies (old : List Body) (rules : List GroundRule) (count : ℕ) : Type 0 where
  pub bodies : List Body
  pub adds : AddsBodies old rules bodies
  pub once : AllPairs (λ b c. b ≢ c) bodies
  pub length_is : length bodies ≡ count
