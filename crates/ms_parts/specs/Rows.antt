-- Rows of choices, from the left.
use Rattle.std.specs.Prelude.{List, [], ◌∷◌, ◌++◌, map, Result, Ok, Err}
use Rattle.std.specs.List.{flat_map}

-- the only item, or else the items
abbrev pub only_of : {A : Type 0} → List A → Result A (List A)
only_of [] = Err []
only_of (x ∷ []) = Ok x
only_of (x ∷ y ∷ more) = Err (x ∷ y ∷ more)

-- each row with each of the items behind it
abbrev pub extended : {A : Type 0} → List (List A) → List A → List (List A)
extended rows items = flat_map (λ row. map (λ x. row ++ x ∷ []) items) rows
