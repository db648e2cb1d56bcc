-- The numbers that names of terms have in a base, which is a list of names.
use Rattle.std.specs.Prelude.{ℕ, ◌≡◌, ◌↔◌, List, Option, Some, None, MatchOption, IsSomeAnd, All, Contains, slice_get}
use Rattle.std.specs.List.Sorted.{IsStrictlyIncreasing}

-- The numbers of the list in rising order, each of them once.
pub record IsSetOf (numbers ids : List ℕ) : Type 0 where
  pub rising : IsStrictlyIncreasing ids
  pub members : (a : ℕ) → Contains ids a ↔ Contains numbers a

-- The numbers of those of the names that are in the base, in rising order.
pub record AreNumbersOf (base names numbers : List ℕ) : Type 0 where
  pub rising : IsStrictlyIncreasing numbers
  pub members : (a : ℕ) → Contains numbers a ↔ IsSomeAnd (slice_get base a) (Contains names)

-- The numbers of the names, or none where one of them is outside the base.
abbrev pub AreNumbersOfAll : List ℕ → List ℕ → Option (List ℕ) → Type 0
AreNumbersOfAll base names numbers = MatchOption numbers (¬ All (Contains base) names) (λ ids. All (Contains base) names × AreNumbersOf base names ids)

-- the number of the head, where there is a head
abbrev pub IsNumberOfHead : List ℕ → Option ℕ → Option ℕ → Type 0
IsNumberOfHead base None number = number ≡ None
IsNumberOfHead base (Some name) number = IsSomeAnd number (λ a. slice_get base a ≡ Some name)
