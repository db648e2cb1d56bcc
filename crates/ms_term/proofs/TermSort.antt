-- Names in the order of their terms, after a sort.
use Rattle.std.proofs.Common.{◌≡◌, ℕ, ◌<◌, ◌≤◌, ◌+◌, List, [], ◌∷◌, Bool, true, false, cond, length, map, eqb, refl, sym, ap, ◌∙◌, subst, arith}
use Rattle.std.proofs.lemmas.Bool.Decides.{Decides-eqb}
use Rattle.std.proofs.lemmas.Cmp.{on_total, tied_itself}
use Rattle.std.proofs.lemmas.List.Elements.{All-head, All-tail}
use Rattle.std.proofs.lemmas.List.Kept.{Contains-dedup_nat, Contains-from_dedup, IsStrictlySortedBy-dedup}
use Rattle.std.proofs.lemmas.List.Sorted.{All-permutation, Contains-permutation, IsPermutation-sym, length_permutation}
use Rattle.std.specs.Cmp.{IsTotalOrder}
use Rattle.std.specs.List.{All, AllByRecursion, dedup, dedup_from}
use Rattle.std.specs.List.Sorted.{IsPermutation, IsSorted, IsStrictlySortedBy}
use Rattle.std.specs.declared.cmp.Ordering.{Ordering}
use Rattle.std.specs.declared.cmp.Ordering.TheVariants.{Less, Equal, Greater}
use Rattle.std.specs.Ordering.{eq_by_cmp, is_eq}
use Rattle.ms_tree.specs.Tree.{Tree}
use Rattle.ms_tree.specs.Order.{compare_trees}
use Rattle.ms_term.specs.Terms.{term_at, AllDifferent}
use Rattle.ms_term.specs.TermOrder.{IsInTermOrder}
use Rattle.ms_term.proofs.TotalOrder.{compare_trees_total, same_term}

-- two tests that agree on the elements leave the same of a list
module _ (P : ℕ → Type 0) (E F : ℕ → ℕ → Bool) (agree : (x y : ℕ) → P x → P y → E x y ≡ F x y) where
  dedup_from_agree : (k : ℕ) (xs : List ℕ) → P k → All P xs → dedup_from E k xs ≡ dedup_from F k xs
  dedup_from_agree k [] one all = refl
  dedup_from_agree k (x ∷ xs) one all =
      let first : P x = All-head P x xs all in
      let rest = All-tail P x xs all in
      let test : E x k ≡ F x k = agree x k first one in
      let same : dedup_from E k xs ≡ dedup_from F k xs = dedup_from_agree k xs one rest in
      let next : dedup_from E x xs ≡ dedup_from F x xs = dedup_from_agree x xs first rest in
      rw (test, same, next)

  dedup_agree : (xs : List ℕ) → All P xs → dedup E xs ≡ dedup F xs
  dedup_agree [] all = refl
  dedup_agree (x ∷ xs) all = dedup_from_agree x xs (All-head P x xs all) (All-tail P x xs all)

length-dedup_from : (E : ℕ → ℕ → Bool) (k : ℕ) (xs : List ℕ) → length (dedup_from E k xs) ≤ length xs + 1
length-dedup_from E k [] = omega arith
length-dedup_from E k (x ∷ xs) = shorter (E x k) (length-dedup_from E k xs) (length-dedup_from E x xs)
  where
    shorter : (b : Bool) → length (dedup_from E k xs) ≤ length xs + 1 → length (dedup_from E x xs) ≤ length xs + 1 → length (cond b (dedup_from E k xs) (k ∷ dedup_from E x xs)) ≤ length (x ∷ xs) + 1
    shorter true one two = omega arith
    shorter false one two = omega arith

length-dedup : (E : ℕ → ℕ → Bool) (xs : List ℕ) → length (dedup E xs) ≤ length xs
length-dedup E [] = omega arith
length-dedup E (x ∷ xs) = omega (arith, length-dedup_from E x xs)

module _ {X K : Type 0} (f : X → K) (R : K → K → Ordering) where
  AllByRecursion-map : (x : X) (xs : List X) → AllByRecursion (λ y. R (f x) (f y) ≡ Less) xs → AllByRecursion (λ k. R (f x) k ≡ Less) (map f xs)
  AllByRecursion-map x [] all = tt
  AllByRecursion-map x (y ∷ ys) all = (all.0, AllByRecursion-map x ys all.1)

  pub IsStrictlySortedBy-map : (xs : List X) → IsStrictlySortedBy (λ x y. R (f x) (f y)) xs → IsStrictlySortedBy R (map f xs)
  unfolding IsStrictlySortedBy
  IsStrictlySortedBy-map [] strict = tt
  IsStrictlySortedBy-map (x ∷ xs) strict = (AllByRecursion-map x xs strict.0, IsStrictlySortedBy-map xs strict.1)

module _ (table : List Tree) (different : AllDifferent table) where
  abbrev by_term : ℕ → ℕ → Ordering
  by_term a b = compare_trees (term_at table a) (term_at table b)

  by_term_total : IsTotalOrder by_term
  by_term_total = on_total (λ n. term_at table n) compare_trees_total

  tied_not : (o : Ordering) → (o ≡ Equal → ⊥) → is_eq o ≡ false
  tied_not Less h = refl
  tied_not Equal h = absurd (h refl)
  tied_not Greater h = refl

  -- names of the table are equal where their terms tie
  tests_agree : (x y : ℕ) → x < length table → y < length table → eqb x y ≡ eq_by_cmp by_term x y
  tests_agree x y x_within y_within = by_cases (eqb x y) refl
    where
      by_cases : (b : Bool) → eqb x y ≡ b → eqb x y ≡ eq_by_cmp by_term x y
      by_cases true e =
          let same : x ≡ y = (Decides-eqb x y).0 e in
          let tied : by_term x y ≡ Equal = subst (λ z. by_term x z ≡ Equal) same (tied_itself by_term_total x) in
          e ∙ sym (ap is_eq tied)
      by_cases false e =
          let apart : by_term x y ≡ Equal → ⊥ = λ tied. let same : x ≡ y = different x y x_within y_within (same_term _ _ tied) in let alike : eqb x y ≡ true = (Decides-eqb x y).1 same in cc in
          e ∙ sym (tied_not (by_term x y) apart)

  pub IsInTermOrder-from_sort : (names sorted : List ℕ) → All (λ n. n < length table) names → IsPermutation names sorted → IsSorted by_term sorted → IsInTermOrder table names (dedup eqb sorted)
  IsInTermOrder-from_sort names sorted below moved in_order =
      let sorted_below = All-permutation (λ n. n < length table) names sorted moved below in
      let alike = dedup_agree (λ n. n < length table) eqb (eq_by_cmp by_term) tests_agree sorted sorted_below in
      record {
        rising = IsStrictlySortedBy-map (term_at table) compare_trees (dedup eqb sorted)
            (subst (IsStrictlySortedBy by_term) (sym alike) (IsStrictlySortedBy-dedup by_term_total (λ x y. refl) sorted in_order));
        members = λ n. (
          λ h. Contains-permutation sorted names n (IsPermutation-sym names sorted moved) (Contains-from_dedup eqb sorted n h),
          λ h. Contains-dedup_nat sorted n (Contains-permutation names sorted n moved h),
        );
        few = omega (arith, length-dedup eqb sorted, length_permutation names sorted moved);
      }
