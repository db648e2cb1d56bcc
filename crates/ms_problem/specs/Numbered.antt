-- Atoms under the numbers of things, and the numbers of those that are in a set.
use Rattle.std.specs.Prelude.{ℕ, ◌≡◌, List, Some, length, slice_get}
use Rattle.std.specs.List.{filter}
use Rattle.ms_join.specs.declared.assumption.AtomLit.{AtomLit}
use Rattle.ms_join.specs.Sets.{set_of}
use Rattle.ms_join.specs.Things.{Thing}
use Rattle.ms_join.specs.Things.Thing.{atom}
use Rattle.ms_things.specs.Numbers.{ext}
use Rattle.ms_things.specs.Signs.{Signed}

-- Each of so many atoms has its number.
pub record AreNumbers (things : List Thing) (count : ℕ) (numbers : List ℕ) : Type 0 where
  pub counted : length numbers ≡ count
  pub each : (a number : ℕ) → slice_get numbers a ≡ Some number → slice_get things number ≡ Some (atom a)

-- the numbers of those atoms that are in the set
abbrev pub numbers_in : List Thing → List ℕ → List ℕ → List ℕ
numbers_in things numbers set = filter (ext (set_of set) things) numbers

-- what an assumption says of the thing that is its atom
abbrev pub said : AtomLit → Signed
said s = record { thing = atom s.atom; truth = s.truth }
