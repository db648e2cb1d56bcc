-- Sets of atoms, as tests of their numbers.
use Rattle.std.specs.Prelude.{ℕ, ◌<◌, ◌==◌, Bool, not, List, All}
use Rattle.std.specs.List.{list_all, list_any}
use Rattle.std.specs.List.Sorted.{IsStrictlyIncreasing}

-- each of the atoms is in the set, and none of them is
abbrev pub has_all : (ℕ → Bool) → List ℕ → Bool
has_all set atoms = list_all set atoms

abbrev pub has_none : (ℕ → Bool) → List ℕ → Bool
has_none set atoms = list_all (λ a. not (set a)) atoms

-- the set of the atoms in a list
abbrev pub set_of : List ℕ → ℕ → Bool
set_of atoms a = list_any (λ b. b == a) atoms

-- A set of atoms below n, as the list of its atoms in rising order.
pub record IsAtomSet (n : ℕ) (atoms : List ℕ) : Type 0 where
  pub rising : IsStrictlyIncreasing atoms
  pub within : All (λ a. a < n) atoms
