-- Places in lists that grow, and facts that hold once a call is done.
use Rattle.std.proofs.Common.{◌≡◌, ◌⊎◌, ℕ, zero, suc, List, [], ◌∷◌, ◌++◌, Some, Result, Ok, Err, OnOk, length, refl, ap, inl, inr}
use Rattle.std.specs.Prelude.{slice_get}
use Rattle.ms_complete.proofs.Lists.{none_is_some, same_some}

-- a place of a longer list is one of the list, or the last
pub push_cases : {X : Type 0} (xs : List X) (x y : X) (k : ℕ) → slice_get (xs ++ x ∷ []) k ≡ Some y → (slice_get xs k ≡ Some y) ⊎ ((k ≡ length xs) × (x ≡ y))
push_cases [] x y zero at = inr (refl, same_some x y at)
push_cases [] x y (suc k) at = absurd (none_is_some y at)
push_cases (z ∷ xs) x y zero at = inl at
push_cases (z ∷ xs) x y (suc k) at = elim (push_cases xs x y k at) [
  | inl before ↦ inl before
  | inr last ↦ inr (ap suc last.0, last.1)
]

-- what holds holds where a call is done
pub on_ok : {T E P : Type 0} (r : Result T E) → P → OnOk r P
on_ok (Ok x) p = p
on_ok (Err e) p = tt
