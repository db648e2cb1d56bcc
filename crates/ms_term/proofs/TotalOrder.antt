-- The order of terms is total, and only a term itself ties with it.
use Rattle.std.proofs.Common.{◌≡◌, ℕ, ℤ, List, refl, sym, ap, ◌∙◌, arith}
use Rattle.std.proofs.lemmas.Cmp.{nat_cmp_total, int_cmp_total, nat_list_cmp_total, alike_right}
use Rattle.std.proofs.lemmas.Slice.Eq.{bytes_eq-Decides}
use Rattle.std.specs.Cmp.{IsTotalOrder}
use Rattle.std.specs.Cmp.Lexicographic.{slice_cmp, texts_ties}
use Rattle.std.specs.declared.cmp.Ordering.{Ordering}
use Rattle.std.specs.declared.cmp.Ordering.TheVariants.{Less, Equal, Greater}
use Rattle.std.specs.Ordering.{is_eq, nat_cmp, int_cmp, ordering_then, ordering_reverse}
use Rattle.ms_tree.specs.Tree.{Tree, number, text, function, Trees, no_tree, tree, tree_count}
use Rattle.ms_tree.specs.Order.{compare_trees, compare_all}

reverse-then : (o p q r : Ordering) → o ≡ ordering_reverse p → q ≡ ordering_reverse r → ordering_then o q ≡ ordering_reverse (ordering_then p r)
reverse-then o Less q r e f = ap (λ x. ordering_then x q) e
reverse-then o Equal q r e f = ap (λ x. ordering_then x q) e ∙ f
reverse-then o Greater q r e f = ap (λ x. ordering_then x q) e

both_equal_first : (o p : Ordering) → ordering_then o p ≡ Equal → o ≡ Equal
both_equal_first Less p e = cc
both_equal_first Equal p e = refl
both_equal_first Greater p e = cc

both_equal_second : (o p : Ordering) → ordering_then o p ≡ Equal → p ≡ Equal
both_equal_second Less p e = cc
both_equal_second Equal p e = e
both_equal_second Greater p e = cc

-- one step of a comparison of three lists by their first elements
lex_trans : (o₁ o₂ o₃ p₁ p₂ p₃ : Ordering) → (o₁ ≡ Less → o₂ ≡ Less → o₃ ≡ Less) → (o₁ ≡ Equal → o₃ ≡ o₂) → (o₂ ≡ Equal → o₃ ≡ o₁) → (p₁ ≡ Less → p₂ ≡ Less → p₃ ≡ Less)
    → ordering_then o₁ p₁ ≡ Less → ordering_then o₂ p₂ ≡ Less → ordering_then o₃ p₃ ≡ Less
lex_trans Less Less o₃ p₁ p₂ p₃ both left right rest e f = ap (λ o. ordering_then o p₃) (both refl refl)
lex_trans Less Equal o₃ p₁ p₂ p₃ both left right rest e f = ap (λ o. ordering_then o p₃) (right refl)
lex_trans Less Greater o₃ p₁ p₂ p₃ both left right rest e f = cc
lex_trans Equal Less o₃ p₁ p₂ p₃ both left right rest e f = ap (λ o. ordering_then o p₃) (left refl)
lex_trans Equal Equal o₃ p₁ p₂ p₃ both left right rest e f = ap (λ o. ordering_then o p₃) (left refl) ∙ rest e f
lex_trans Equal Greater o₃ p₁ p₂ p₃ both left right rest e f = cc
lex_trans Greater o₂ o₃ p₁ p₂ p₃ both left right rest e f = cc

numbers_tied : (m n : ℤ) → int_cmp m n ≡ Equal → m ≡ n
numbers_tied m n e = grind arith

counts_tied : (m n : ℕ) → nat_cmp m n ≡ Equal → m ≡ n
counts_tied m n e = grind arith

bytes_tied : (s t : List ℕ) → slice_cmp nat_cmp s t ≡ Equal → s ≡ t
bytes_tied s t e = (bytes_eq-Decides s t).0 (texts_ties s t ∙ ap is_eq e)

mutual
  pub same_term : (x y : Tree) → compare_trees x y ≡ Equal → x ≡ y
  same_term (number m) (number n) e = ap number (numbers_tied m n e)
  same_term (number m) (text t) e = cc
  same_term (number m) (function g us) e = cc
  same_term (text s) (number n) e = cc
  same_term (text s) (text t) e = ap text (bytes_tied s t e)
  same_term (text s) (function g us) e = cc
  same_term (function f ts) (number n) e = cc
  same_term (function f ts) (text t) e = cc
  same_term (function f ts) (function g us) e =
      let rest = both_equal_second (nat_cmp (tree_count ts) (tree_count us)) _ e in
      let name : f ≡ g = bytes_tied f g (both_equal_first _ _ rest) in
      let all : ts ≡ us = same_terms ts us (both_equal_second (slice_cmp nat_cmp f g) _ rest) in
      cc

  same_terms : (xs ys : Trees) → compare_all xs ys ≡ Equal → xs ≡ ys
  same_terms no_tree no_tree e = refl
  same_terms no_tree (tree u us) e = cc
  same_terms (tree t ts) no_tree e = cc
  same_terms (tree t ts) (tree u us) e =
      let first : t ≡ u = same_term t u (both_equal_first (compare_trees t u) (compare_all ts us) e) in
      let rest : ts ≡ us = same_terms ts us (both_equal_second (compare_trees t u) (compare_all ts us) e) in
      cc

mutual
  reversed : (x y : Tree) → compare_trees x y ≡ ordering_reverse (compare_trees y x)
  reversed (number m) (number n) = int_cmp_total.antisymm m n
  reversed (number m) (text t) = refl
  reversed (number m) (function g us) = refl
  reversed (text s) (number n) = refl
  reversed (text s) (text t) = nat_list_cmp_total.antisymm s t
  reversed (text s) (function g us) = refl
  reversed (function f ts) (number n) = refl
  reversed (function f ts) (text t) = refl
  reversed (function f ts) (function g us) =
      reverse-then (nat_cmp (tree_count ts) (tree_count us)) (nat_cmp (tree_count us) (tree_count ts)) _ _ (nat_cmp_total.antisymm (tree_count ts) (tree_count us))
      (reverse-then (slice_cmp nat_cmp f g) (slice_cmp nat_cmp g f) _ _ (nat_list_cmp_total.antisymm f g) (all_reversed ts us))

  all_reversed : (xs ys : Trees) → compare_all xs ys ≡ ordering_reverse (compare_all ys xs)
  all_reversed no_tree no_tree = refl
  all_reversed no_tree (tree u us) = refl
  all_reversed (tree t ts) no_tree = refl
  all_reversed (tree t ts) (tree u us) = reverse-then (compare_trees t u) (compare_trees u t) _ _ (reversed t u) (all_reversed ts us)

left_tied : (x y z : Tree) → compare_trees x y ≡ Equal → compare_trees x z ≡ compare_trees y z
left_tied x y z e = ap (λ t. compare_trees t z) (same_term x y e)

right_tied : (x y z : Tree) → compare_trees y z ≡ Equal → compare_trees x z ≡ compare_trees x y
right_tied x y z e = ap (λ t. compare_trees x t) (sym (same_term y z e))

mutual
  below : (x y z : Tree) → compare_trees x y ≡ Less → compare_trees y z ≡ Less → compare_trees x z ≡ Less
  below (number l) (number m) (number n) e f = int_cmp_total.trans l m n e f
  below (number l) y (text t) e f = refl
  below (number l) y (function g us) e f = refl
  below (number l) (text s) (number n) e f = cc
  below (number l) (function g us) (number n) e f = cc
  below (text s) (number m) z e f = cc
  below (text s) (text t) (number n) e f = cc
  below (text s) (text t) (text u) e f = nat_list_cmp_total.trans s t u e f
  below (text s) y (function g us) e f = refl
  below (text s) (function g us) (number n) e f = cc
  below (text s) (function g us) (text u) e f = cc
  below (function f ts) (number m) z d e = cc
  below (function f ts) (text t) z d e = cc
  below (function f ts) (function g us) (number n) d e = cc
  below (function f ts) (function g us) (text t) d e = cc
  below (function f ts) (function g us) (function h vs) d e =
      let N = nat_cmp_total in
      let L = nat_list_cmp_total in
      let a : ℕ = tree_count ts in
      let b : ℕ = tree_count us in
      let k : ℕ = tree_count vs in
      lex_trans (nat_cmp a b) (nat_cmp b k) (nat_cmp a k) _ _ _ (N.trans a b k) (N.congr a b k) (λ q. sym (alike_right N b k a q))
      (lex_trans (slice_cmp nat_cmp f g) (slice_cmp nat_cmp g h) (slice_cmp nat_cmp f h) _ _ _ (L.trans f g h) (L.congr f g h) (λ q. sym (alike_right L g h f q))
      (all_below ts us vs))
      d e

  all_below : (xs ys zs : Trees) → compare_all xs ys ≡ Less → compare_all ys zs ≡ Less → compare_all xs zs ≡ Less
  all_below no_tree no_tree zs e f = cc
  all_below no_tree (tree u us) no_tree e f = cc
  all_below no_tree (tree u us) (tree v vs) e f = refl
  all_below (tree t ts) no_tree zs e f = cc
  all_below (tree t ts) (tree u us) no_tree e f = cc
  all_below (tree t ts) (tree u us) (tree v vs) e f =
      lex_trans (compare_trees t u) (compare_trees u v) (compare_trees t v) (compare_all ts us) (compare_all us vs) (compare_all ts vs)
      (below t u v) (left_tied t u v) (right_tied t u v) (all_below ts us vs) e f

pub compare_trees_total : IsTotalOrder compare_trees
compare_trees_total = record { antisymm = reversed; trans = below; congr = left_tied }
