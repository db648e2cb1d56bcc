-- Laws of the order of terms, and of names in it.
use Rattle.std.proofs.Common.{◌≡◌, ℕ, ℤ, ◌<◌, List, [], ◌∷◌, take, drop, get_or, length, not, true, false, eqb, Bool, ◌-◌, refl, sym, ap, ◌∙◌, arith}
use Rattle.std.specs.declared.cmp.Ordering.{Ordering}
use Rattle.std.specs.declared.cmp.Ordering.TheVariants.{Less, Equal, Greater}
use Rattle.std.specs.Ordering.{nat_cmp, int_cmp, ordering_then}
use Rattle.std.specs.Cmp.Lexicographic.{slice_cmp}
use Rattle.ms_tree.specs.Tree.{Tree, number, text, function, Trees, no_tree, tree, tree_count}
use Rattle.ms_tree.specs.Order.{compare_trees, compare_all}
use Rattle.ms_term.specs.Terms.{term_at, terms_at, AllBelow, AllDifferent}
use Rattle.std.proofs.lemmas.Bool.Decides.{Decides-eqb}
use Rattle.ms_term.proofs.TotalOrder.{same_term}

nat_cmp-same : (n : ℕ) → nat_cmp n n ≡ Equal
nat_cmp-same n = grind arith

int_cmp-same : (n : ℤ) → int_cmp n n ≡ Equal
int_cmp-same n = grind arith

bytes-same : (xs : List ℕ) → slice_cmp nat_cmp xs xs ≡ Equal
bytes-same [] = refl
bytes-same (x ∷ xs) = ap (λ o. ordering_then o (slice_cmp nat_cmp xs xs)) (nat_cmp-same x) ∙ bytes-same xs

mutual
  -- a term is equal to itself
  pub compare_trees-same : (t : Tree) → compare_trees t t ≡ Equal
  compare_trees-same (number n) = int_cmp-same n
  compare_trees-same (text s) = bytes-same s
  compare_trees-same (function f ts) =
      ap (λ o. ordering_then o (ordering_then (slice_cmp nat_cmp f f) (compare_all ts ts))) (nat_cmp-same (tree_count ts))
      ∙ (ap (λ o. ordering_then o (compare_all ts ts)) (bytes-same f) ∙ compare_all-same ts)

  pub compare_all-same : (ts : Trees) → compare_all ts ts ≡ Equal
  compare_all-same no_tree = refl
  compare_all-same (tree t ts) = ap (λ o. ordering_then o (compare_all ts ts)) (compare_trees-same t) ∙ compare_all-same ts

pub tree_count-terms_at : (ts : List Tree) (is : List ℕ) → tree_count (terms_at ts is) ≡ length is
tree_count-terms_at ts [] = refl
tree_count-terms_at ts (i ∷ is) = grind (arith, tree_count-terms_at ts is)

ordering_then-stays : (r o : Ordering) → (r ≡ Equal → ⊥) → ordering_then r o ≡ r
ordering_then-stays Less o h = refl
ordering_then-stays Equal o h = absurd (h refl)
ordering_then-stays Greater o h = refl

-- the order of two functions whose arguments are named
functions-order : (ts : List Tree) (f g is js : List ℕ) → compare_trees (function f (terms_at ts is)) (function g (terms_at ts js))
    ≡ ordering_then (nat_cmp (length is) (length js)) (ordering_then (slice_cmp nat_cmp f g) (compare_all (terms_at ts is) (terms_at ts js)))
functions-order ts f g is js =
    ap (λ n. ordering_then (nat_cmp n (tree_count (terms_at ts js))) (ordering_then (slice_cmp nat_cmp f g) (compare_all (terms_at ts is) (terms_at ts js)))) (tree_count-terms_at ts is)
    ∙ ap (λ n. ordering_then (nat_cmp (length is) n) (ordering_then (slice_cmp nat_cmp f g) (compare_all (terms_at ts is) (terms_at ts js)))) (tree_count-terms_at ts js)

then-then : (a b o : Ordering) → ordering_then (ordering_then a b) o ≡ ordering_then a (ordering_then b o)
then-then Less b o = refl
then-then Equal b o = refl
then-then Greater b o = refl

-- the numbers of arguments and the names differ
pub by_tops : (ts : List Tree) (f g is js : List ℕ) (r : Ordering) → r ≡ ordering_then (nat_cmp (length is) (length js)) (slice_cmp nat_cmp f g)
    → (r ≡ Equal → ⊥) → r ≡ compare_trees (function f (terms_at ts is)) (function g (terms_at ts js))
by_tops ts f g is js r e differ =
    let all : Ordering = compare_all (terms_at ts is) (terms_at ts js) in
    sym (functions-order ts f g is js
    ∙ (sym (then-then (nat_cmp (length is) (length js)) (slice_cmp nat_cmp f g) all)
    ∙ (ap (λ o. ordering_then o all) (sym e) ∙ ordering_then-stays r all differ)))

-- or else the arguments decide
pub by_arguments : (ts : List Tree) (f g is js : List ℕ) (r : Ordering) → r ≡ ordering_then (nat_cmp (length is) (length js)) (slice_cmp nat_cmp f g)
    → r ≡ Equal → compare_all (terms_at ts is) (terms_at ts js) ≡ compare_trees (function f (terms_at ts is)) (function g (terms_at ts js))
by_arguments ts f g is js r e same =
    let all : Ordering = compare_all (terms_at ts is) (terms_at ts js) in
    sym (functions-order ts f g is js
    ∙ (sym (then-then (nat_cmp (length is) (length js)) (slice_cmp nat_cmp f g) all)
    ∙ ap (λ o. ordering_then o all) (sym e ∙ same)))

-- arguments that are one are passed over
pub passed_over : (ts : List Tree) (i j : ℕ) (is js : List ℕ) → i ≡ j → compare_all (terms_at ts (i ∷ is)) (terms_at ts (j ∷ js)) ≡ compare_all (terms_at ts is) (terms_at ts js)
passed_over ts i j is js e =
    ap (λ o. ordering_then o (compare_all (terms_at ts is) (terms_at ts js))) (ap (λ k. compare_trees (term_at ts i) (term_at ts k)) (sym e) ∙ compare_trees-same (term_at ts i))

-- the first that differ decide
pub first_decides : (ts : List Tree) (i j : ℕ) (is js : List ℕ) → AllDifferent ts → i < length ts → j < length ts → (i ≡ j → ⊥)
    → compare_trees (term_at ts i) (term_at ts j) ≡ compare_all (terms_at ts (i ∷ is)) (terms_at ts (j ∷ js))
first_decides ts i j is js different hi hj apart =
    sym (ordering_then-stays (compare_trees (term_at ts i) (term_at ts j)) (compare_all (terms_at ts is) (terms_at ts js))
    (λ tied. apart (different i j hi hj (same_term (term_at ts i) (term_at ts j) tied))))

-- the first arguments of both lists, where they are one
pub both_passed : (ts : List Tree) (is js : List ℕ) (i j : ℕ) (order : Ordering) → 0 < length is → 0 < length js → i ≡ get_or is 0 i → j ≡ get_or js 0 j → i ≡ j
    → compare_all (terms_at ts is) (terms_at ts js) ≡ order → compare_all (terms_at ts (drop 1 is)) (terms_at ts (drop 1 js)) ≡ order
both_passed ts [] js i j order hi hj ei ej e same = absurd (omega arith)
both_passed ts (k ∷ is) [] i j order hi hj ei ej e same = absurd (omega arith)
both_passed ts (k ∷ is) (m ∷ js) i j order hi hj ei ej e same = sym (passed_over ts k m is js (sym ei ∙ (e ∙ ej))) ∙ same

-- and where they differ
pub both_differ : (ts : List Tree) (is js : List ℕ) (i j : ℕ) (order : Ordering) → 0 < length is → 0 < length js → i ≡ get_or is 0 i → j ≡ get_or js 0 j → (i ≡ j → ⊥)
    → AllDifferent ts → AllBelow (length ts) is → AllBelow (length ts) js
    → compare_all (terms_at ts is) (terms_at ts js) ≡ order → compare_trees (term_at ts i) (term_at ts j) ≡ order
both_differ ts [] js i j order hi hj ei ej apart different is_below js_below same = absurd (omega arith)
both_differ ts (k ∷ is) [] i j order hi hj ei ej apart different is_below js_below same = absurd (omega arith)
both_differ ts (k ∷ is) (m ∷ js) i j order hi hj ei ej apart different is_below js_below same =
    ap (λ n. compare_trees (term_at ts n) (term_at ts j)) ei ∙ (ap (λ n. compare_trees (term_at ts k) (term_at ts n)) ej
    ∙ (first_decides ts k m is js different is_below.0 js_below.0 (λ e. apart (ei ∙ (e ∙ sym ej))) ∙ same))

pub AllBelow-first : (n : ℕ) (is : List ℕ) (i : ℕ) → 0 < length is → i ≡ get_or is 0 i → AllBelow n is → i < n
AllBelow-first n [] i h e below = absurd (omega arith)
AllBelow-first n (k ∷ is) i h e below = let first : k < n = below.0 in omega (arith, e)

pub AllBelow-rest : (n : ℕ) (is : List ℕ) → AllBelow n is → AllBelow n (drop 1 is)
AllBelow-rest n [] below = tt
AllBelow-rest n (k ∷ is) below = below.1

pub tail_is : (xs : List ℕ) → take (length xs - 1) (drop 1 xs) ≡ drop 1 xs
tail_is [] = refl
tail_is (x ∷ xs) = let e : length (x ∷ xs) - 1 ≡ length xs = omega arith in ap (λ n. take n xs) e ∙ take_all xs
  where
    take_all : (ys : List ℕ) → take (length ys) ys ≡ ys
    take_all [] = refl
    take_all (y ∷ ys) = ap (λ zs. y ∷ zs) (take_all ys)

pub rests_equally_long : (is js : List ℕ) → length is ≡ length js → length (drop 1 is) ≡ length (drop 1 js)
rests_equally_long [] [] e = refl
rests_equally_long [] (j ∷ js) e = absurd (omega arith)
rests_equally_long (i ∷ is) [] e = absurd (omega arith)
rests_equally_long (i ∷ is) (j ∷ js) e = omega arith

pub different_names : (i j : ℕ) → not (eqb i j) ≡ true → i ≡ j → ⊥
different_names i j apart e = let same : eqb i j ≡ true = (Decides-eqb i j).1 e in cc

pub same_names : (i j : ℕ) → not (eqb i j) ≡ false → i ≡ j
same_names i j same = by (eqb i j) refl same
  where
    by : (b : Bool) → eqb i j ≡ b → not b ≡ false → i ≡ j
    by true e h = (Decides-eqb i j).0 e
    by false e h = cc
