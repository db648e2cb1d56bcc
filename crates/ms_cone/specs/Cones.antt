-- Atoms around given ones, with the numbers of their components.
use Rattle.std.specs.Prelude.{ℕ, ◌≡◌, ◌^◌, ◌<◌, ◌↔◌, nat_eq, List, Option, Some, option_map, position, All, Contains, length, slice_index}
use Rattle.std.specs.List.{IsDistinct}
use Rattle.ms_join.specs.declared.ground_rule.GroundRule.{GroundRule}
use Rattle.ms_join.specs.Dependencies.{AreTogether}

-- atoms, and the number of each one's component in the same place
pub record Numbered : Type 0 where
  pub members : List ℕ
  pub numbers : List ℕ

-- the number of a member's component, and none of another atom
abbrev pub number_of : Numbered → ℕ → Option ℕ
number_of cone a = option_map (slice_index cone.numbers) (position (nat_eq a) cone.members)

-- Each atom is there once and has a number, which is below the number of atoms.
pub record IsNumbered (cone : Numbered) : Type 0 where
  pub once : IsDistinct nat_eq cone.members
  pub len : length cone.numbers ≡ length cone.members
  pub below : All (λ number. number < length cone.members) cone.numbers
  pub few : length cone.members < 2 ^ 32

-- Each start is there, and exactly the atoms of one component have equal numbers. So the whole component of each member
-- is there.
pub record IsCone (rules : List GroundRule) (starts : List ℕ) (cone : Numbered) : Type 0 where
  pub starts_are : (a : ℕ) → Contains starts a → Contains cone.members a
  pub components : (a b n : ℕ) → number_of cone a ≡ Some n → (number_of cone b ≡ Some n) ↔ AreTogether rules a b
