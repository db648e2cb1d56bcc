-- Lists of numbers that rise, at their last number.
use Rattle.std.proofs.Common.{◌≡◌, ◌≢◌, ◌+◌, ◌-◌, ◌<◌, ◌≤◌, ℕ, List, [], ◌∷◌, ◌++◌, Some, All, length, get_or, take, sym, ◌∙◌, ap, subst, ⊎_elim, arith}
use Rattle.std.specs.List.{slice_get}
use Rattle.std.specs.List.Sorted.{IsStrictlyIncreasing}
use Rattle.std.proofs.lemmas.Bool.{cases_lt}
use Rattle.std.proofs.lemmas.List.{get_or_append_left, get_or-take, get_or_push, length-take-le, length_push, take_more, take_all}
use Rattle.std.proofs.lemmas.List.Kept.{AllPairs-from_increasing}
use Rattle.std.proofs.lemmas.Option.{slice_get-get_or, get_or_from_slice_get, slice_get_within}

-- the numbers in front of the last are below it
pub below_last : (xs : List ℕ) (last : ℕ) → IsStrictlyIncreasing xs → slice_get xs (length xs - 1) ≡ Some last → All (λ a. a < last) (take (length xs - 1) xs)
below_last xs last rising is_last k d short =
    let here : k < length xs - 1 = omega (arith, length-take-le (length xs - 1) xs (omega arith)) in
    let P : ℕ → Type 0 = λ a. a < last in
    let at_last : get_or xs (length xs - 1) d ≡ last = get_or_from_slice_get xs (length xs - 1) last d is_last in
    subst P (sym (get_or-take (length xs - 1) xs k d here)) (omega (arith, AllPairs-from_increasing xs rising k (length xs - 1) d here (omega arith)))

pub IsStrictlyIncreasing-front : (xs : List ℕ) (i : ℕ) → i ≤ length xs → IsStrictlyIncreasing xs → IsStrictlyIncreasing (take i xs)
IsStrictlyIncreasing-front xs i within rising k short =
    let here : k + 1 < i = omega (arith, length-take-le i xs within) in
    let at = get_or-take i xs k 0 (omega arith) in
    let after = get_or-take i xs (k + 1) 0 here in
    omega (arith, rising k (omega arith))

-- where b bounds the numbers from above and is not the last, it is above them all
pub below_unless_last : (xs : List ℕ) (b : ℕ) → IsStrictlyIncreasing xs → All (λ a. a < b + 1) xs → slice_get xs (length xs - 1) ≢ Some b → All (λ a. a < b) xs
below_unless_last xs b rising below differs k d short =
    ⊎_elim (λ (inner : k < length xs - 1). omega (arith, AllPairs-from_increasing xs rising k (length xs - 1) d inner (omega arith), below (length xs - 1) d (omega arith)))
    (λ (outer : length xs - 1 ≤ k).
    let last : k ≡ length xs - 1 = omega arith in
    let apart : get_or xs k d ≢ b = λ e. differs (ap (slice_get xs) (sym last) ∙ slice_get-get_or xs k d short ∙ ap Some e) in
    omega (arith, below k d short))
    (cases_lt k (length xs - 1))

pub IsStrictlyIncreasing-push : (xs : List ℕ) (b : ℕ) → IsStrictlyIncreasing xs → All (λ a. a < b) xs → IsStrictlyIncreasing (xs ++ b ∷ [])
IsStrictlyIncreasing-push xs b rising below k short =
    let within : k < length xs = omega (arith, length_push xs b) in
    let at = get_or_append_left xs (b ∷ []) 0 k within in
    ⊎_elim (λ (inner : k + 1 < length xs).
    let after = get_or_append_left xs (b ∷ []) 0 (k + 1) inner in
    omega (arith, rising k inner))
    (λ (outer : length xs ≤ k + 1).
    let after = get_or_push xs b 0 (k + 1) (omega arith) in
    omega (arith, below k 0 within))
    (cases_lt (k + 1) (length xs))

pub front_and_last : (xs : List ℕ) (last : ℕ) → slice_get xs (length xs - 1) ≡ Some last → xs ≡ take (length xs - 1) xs ++ last ∷ []
front_and_last xs last is_last =
    let within : length xs - 1 < length xs = slice_get_within xs (length xs - 1) last is_last in
    let at_last : get_or xs (length xs - 1) last ≡ last = get_or_from_slice_get xs (length xs - 1) last last is_last in
    let all : take (length xs - 1 + 1) xs ≡ xs = take_all (length xs - 1 + 1) xs (omega arith) in
    sym all ∙ take_more xs (length xs - 1) last within ∙ ap (λ a. take (length xs - 1) xs ++ a ∷ []) at_last
