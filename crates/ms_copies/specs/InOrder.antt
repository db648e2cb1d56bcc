-- The choices for ranges as a list, in rising order: the first integer that differs decides.
use Rattle.std.specs.Prelude.{ℕ, zero, suc, ℤ, pos, negsuc, ◌+ℤ◌, ◌-ℤ◌, List, [], ◌∷◌, ◌++◌, map, flat_map, Option, Some, None}
use Rattle.ms_core.specs.declared.rule.Range.{Range}
use Rattle.ms_copies.specs.Evaluating.{Chosen, integer, value}

-- so many integers, from the first one on
unfoldable pub integers_from : ℤ → ℕ → List ℤ
integers_from n zero = []
integers_from n (suc k) = n ∷ integers_from (n +ℤ pos 1) k

-- how many integers there are from one to another that is greater by so much
abbrev pub how_many : ℤ → ℕ
how_many (pos d) = suc d
how_many (negsuc d) = 0

abbrev pub integers : ℤ → ℤ → List ℤ
integers low high = integers_from low (how_many (high -ℤ low))

-- the integers between two ends, and none where one of them is no integer
abbrev pub integers_between : Option ℤ → Option ℤ → List ℤ
integers_between (Some low) (Some high) = integers low high
integers_between (Some low) None = []
integers_between None high = []

abbrev pub integers_within : Chosen → Range → List ℤ
integers_within before range = integers_between (integer (value before range.low)) (integer (value before range.high))

-- each integer of a range, followed by each choice for the ranges after it
unfoldable pub choices : List Range → Chosen → List Chosen
choices [] before = [] ∷ []
choices (range ∷ ranges) before = flat_map (λ n. map (λ c. n ∷ c) (choices ranges (before ++ n ∷ []))) (integers_within before range)
