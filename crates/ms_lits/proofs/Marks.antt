-- The marks of the variables, and how many are set.
use Rattle.std.proofs.Common.{ℕ, ◌≡◌, ◌<◌, ◌+◌, suc, List, [], ◌∷◌, Some, None, Bool, true, false, length, get_or, set, refl, ◌∙◌, cond, arith}
use Rattle.std.specs.List.{count_by}
use Rattle.std.proofs.lemmas.Bool.{cond-true, cond-false}
use Rattle.std.proofs.lemmas.List.{length-set}
use Rattle.std.proofs.lemmas.List.Sums.{sum_by-set, sum_by-cons, count_by-le-length}
use Rattle.ms_lits.specs.declared.trail.Mark.{Mark}
use Rattle.ms_lits.specs.declared.trail.Mark.TheVariants.{Free, Negative, Positive}
use Rattle.ms_lits.specs.Storage.{mark_for, truth_of, is_set}

pub truth_marked : (b : Bool) → truth_of (mark_for b) ≡ Some b
truth_marked true = refl
truth_marked false = refl

pub set_marked : (b : Bool) → is_set (mark_for b) ≡ true
set_marked true = refl
set_marked false = refl

pub free_untrue : (m : Mark) → is_set m ≡ false → truth_of m ≡ None
free_untrue Free e = refl
free_untrue Negative e = cc
free_untrue Positive e = cc

weight_set : (m : Mark) → is_set m ≡ true → ◌≡◌ {A = ℕ} (cond (is_set m) 1 0) 1
weight_set m e = cond-true (is_set m) 1 0 e

weight_free : (m : Mark) → is_set m ≡ false → ◌≡◌ {A = ℕ} (cond (is_set m) 1 0) 0
weight_free m e = cond-false (is_set m) 1 0 e

-- one more is set
pub count_up : (xs : List Mark) (i : ℕ) (y : Mark) → i < length xs → is_set (get_or xs i Free) ≡ false → is_set y ≡ true → count_by is_set (set xs i y) ≡ count_by is_set xs + 1
count_up xs i y below free now =
    let moved = sum_by-set (λ m. cond (is_set m) 1 0) xs i y Free below in
    let before = weight_free (get_or xs i Free) free in
    let after = weight_set y now in
    omega (arith, moved, before, after)

-- one less is set
pub count_down : (xs : List Mark) (i : ℕ) → i < length xs → is_set (get_or xs i Free) ≡ true → count_by is_set (set xs i Free) + 1 ≡ count_by is_set xs
count_down xs i below was =
    let moved = sum_by-set (λ m. cond (is_set m) 1 0) xs i Free Free below in
    let before = weight_set (get_or xs i Free) was in
    omega (arith, moved, before)

-- where a variable is free, fewer are set than there are
pub count_below : (xs : List Mark) (i : ℕ) → i < length xs → is_set (get_or xs i Free) ≡ false → count_by is_set xs < length xs
count_below xs i below free =
    let more = count_up xs i Positive below free refl in
    let most = count_by-le-length is_set (set xs i Positive) in
    let same = length-set xs i Positive in
    omega (arith, more, most, same)

-- where none is set, the count is 0
pub count_none : (xs : List Mark) → ((i : ℕ) → i < length xs → is_set (get_or xs i Free) ≡ false) → count_by is_set xs ≡ 0
count_none [] free = refl
count_none (x ∷ xs) free =
    let here = weight_free x (free 0 (omega arith)) in
    let rest = count_none xs (λ i lt. free (suc i) (omega arith)) in
    let sum : cond (is_set x) 1 0 + count_by is_set xs ≡ 0 = omega (arith, here, rest) in
    sum_by-cons (λ m. cond (is_set m) 1 0) x xs ∙ sum
