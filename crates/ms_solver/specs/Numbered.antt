-- Atoms that are picked by their numbers, and literals of atoms.
use Rattle.std.specs.Prelude.{ℕ, suc, ◌≡◌, Bool, cond, List, [], ◌∷◌, Some, slice_get}
use Rattle.std.specs.List.{filter}
use Rattle.ms_lits.specs.declared.lit.Lit.{Lit}
use Rattle.ms_join.specs.declared.assumption.AtomLit.{AtomLit}
use Rattle.ms_join.specs.Sets.{set_of}

-- the places of those numbers that pass, counted from this one on
abbrev pub places : (ℕ → Bool) → ℕ → List ℕ → List ℕ
places test from [] = []
places test from (number ∷ numbers) = cond (test number) (from ∷ places test (suc from) numbers) (places test (suc from) numbers)

-- the atoms whose numbers are in the list
abbrev pub atoms_of : List ℕ → List ℕ → List ℕ
atoms_of numbers picked = places (set_of picked) 0 numbers

-- The list has those of the numbers that are in it, in their order.
abbrev pub IsPickedFrom : List ℕ → List ℕ → Type 0
IsPickedFrom numbers picked = picked ≡ filter (set_of picked) numbers

-- The literal says of an atom's number what the assumption says of the atom.
pub record IsLitOf (numbers : List ℕ) (s : AtomLit) (lit : Lit) : Type 0 where
  pub var : slice_get numbers s.atom ≡ Some lit.var
  pub truth : lit.truth ≡ s.truth
