-- The sets of the atoms below n, in an order.
use Rattle.std.specs.Prelude.{ℕ, ◌≡◌, ◌+◌, ◌-◌, ◌^◌, ◌++◌, ◌∷◌, [], List, Option, Some, None, sum_by, ◌⊎◌}

-- The place of a set: the binary number that has a digit for each atom, the last atom's at its end.
abbrev pub place_of : ℕ → List ℕ → ℕ
place_of n set = sum_by (λ a. 2 ^ (n - (a + 1))) set

-- The place of the next set to be tried, or the number of sets where none is left.
abbrev pub tried_before : ℕ → Option (List ℕ) → ℕ
tried_before n (Some set) = place_of n set
tried_before n None = 2 ^ n

-- The set goes to the end of the list where this holds of it.
abbrev pub KeepsWhere : Type 0 → List ℕ → List (List ℕ) → List (List ℕ) → Type 0
KeepsWhere Holds set old new = (Holds × (new ≡ old ++ set ∷ [])) ⊎ ((¬ Holds) × (new ≡ old))
