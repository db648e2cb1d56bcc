-- What the tests know of the modules that they make, and of the things once these are taken.
use Rattle.std.specs.Prelude.{ℕ, ◌≡◌, ◌+◌, ◌<◌, List, [], All, Contains, IfSome, length}
use Rattle.ms_join.specs.declared.ground_rule.GroundRule.{GroundRule}
use Rattle.ms_join.specs.declared.ground_module.GroundModule.{GroundModule}
use Rattle.ms_join.specs.Things.Thing.{atom}
use Rattle.ms_complete.specs.Numbering.{Numbering}

-- The rule speaks of so many atoms, and has no aggregates.
pub record IsRuleBelow (count : ℕ) (rule : GroundRule) : Type 0 where
  pub pos : All (λ a. a < count) rule.pos
  pub neg : All (λ a. a < count) rule.neg
  pub head : IfSome rule.head (λ h. h < count)
  pub plain : rule.aggs ≡ []

-- The module has new atoms with these names, after so many, and speaks of all these atoms alone.
pub record IsPartAfter (first : ℕ) (names : List ℕ) (m : GroundModule) : Type 0 where
  pub after : m.first_new ≡ first
  pub fresh : m.fresh ≡ length names
  pub named : m.names ≡ names
  pub rules : All (IsRuleBelow (first + length names)) m.rules
  pub heads : All (λ a. a < first + length names) m.heads

-- There are so many names, which are among so many terms, and they name each declared atom.
pub record HasNames (count terms : ℕ) (n : Numbering) : Type 0 where
  pub long : length n.names ≡ count
  pub within : All (λ name. name < terms) n.names
  pub each : (a : ℕ) → Contains n.things (atom a) → a < count
