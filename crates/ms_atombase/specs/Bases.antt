-- Bases of atoms, by their terms.
use Rattle.std.specs.Prelude.{ℕ, ◌≡◌, ◌<◌, ◌^◌, ◌++◌, ◌∷◌, [], List, Some, Contains, length, slice_get}

-- Each atom is there once, and there are few enough that each place is a number of 32 bits.
pub record IsBase (atoms : List ℕ) : Type 0 where
  pub once : (i k a : ℕ) → slice_get atoms i ≡ Some a → slice_get atoms k ≡ Some a → i ≡ k
  pub few : length atoms < 2 ^ 32

-- The atom stands at this place, and at no other.
pub record IsPlaceOf (atoms : List ℕ) (atom place : ℕ) : Type 0 where
  pub there : slice_get atoms place ≡ Some atom
  pub only : (other : ℕ) → slice_get atoms other ≡ Some atom → other ≡ place

-- The base has the atom at this place now. An atom that was there leaves the base as it was, and another one
-- goes last.
pub record Interns (old new : List ℕ) (atom place : ℕ) : Type 0 where
  pub there : slice_get new place ≡ Some atom
  pub kept : Contains old atom → new ≡ old
  pub added : ¬ Contains old atom → (new ≡ old ++ atom ∷ []) × (place ≡ length old)
