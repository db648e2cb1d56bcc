-- Terms by their places, in lists in which each stands once.
use Rattle.std.proofs.Common.{◌≡◌, ℕ, ◌+◌, ◌<◌, zero, suc, List, [], ◌∷◌, ◌++◌, Some, length, get_or, subst, arith, inl, inr, ◌⊎◌, Less, Equal}
use Rattle.std.specs.List.{Contains, slice_get}
use Rattle.std.specs.List.Sorted.{IsStrictlySortedBy}
use Rattle.std.proofs.lemmas.Bool.{cases_order}
use Rattle.std.proofs.lemmas.Map.Keys.{Less-from_sorted}
use Rattle.std.proofs.lemmas.Option.{get_or_from_slice_get, slice_get_within}
use Rattle.ms_tree.specs.Tree.{Tree}
use Rattle.ms_tree.specs.Order.{compare_trees}
use Rattle.ms_term.proofs.Orders.{compare_trees-same}

-- no term stands at two places
abbrev pub HasEachOnce : List Tree → Type 0
HasEachOnce names = (a b : ℕ) (t : Tree) → slice_get names a ≡ Some t → slice_get names b ≡ Some t → a ≡ b

pub there : (names : List Tree) (a : ℕ) (t : Tree) → slice_get names a ≡ Some t → Contains names t
there names a t at = (a, slice_get_within names a t at, get_or_from_slice_get names a t t at)

-- what stands in a list stands there in a longer one
pub at_front : (xs ys : List Tree) (a : ℕ) (t : Tree) → slice_get xs a ≡ Some t → slice_get (xs ++ ys) a ≡ Some t
at_front [] ys a t at = cc
at_front (x ∷ xs) ys zero t at = at
at_front (x ∷ xs) ys (suc a) t at = at_front xs ys a t at

-- the place is in the first list, or it is one of the second
record IsLater (xs ys : List Tree) (a : ℕ) (t : Tree) : Type 0 where
  place : ℕ
  far : a ≡ length xs + place
  at : slice_get ys place ≡ Some t

places : (xs ys : List Tree) (a : ℕ) (t : Tree) → slice_get (xs ++ ys) a ≡ Some t → (slice_get xs a ≡ Some t) ⊎ IsLater xs ys a t
places [] ys a t at = inr (record { place = a; far = omega arith; at = at })
places (x ∷ xs) ys zero t at = inl at
places (x ∷ xs) ys (suc a) t at = elim (places xs ys a t at) [
  | inl front ↦ inl front
  | inr later ↦ inr (record { place = later.place; far = omega (arith, later.far); at = later.at })
]

pub each_once_in_both : (xs ys : List Tree) → HasEachOnce xs → HasEachOnce ys → ((t : Tree) → Contains ys t → ¬ Contains xs t) → HasEachOnce (xs ++ ys)
each_once_in_both xs ys first second apart a b t at_a at_b = elim (places xs ys a t at_a) [
  | inl front ↦ elim (places xs ys b t at_b) [
    | inl other ↦ first a b t front other
    | inr later ↦ absurd (apart t (there ys later.place t later.at) (there xs a t front))
  ]
  | inr late ↦ elim (places xs ys b t at_b) [
    | inl other ↦ absurd (apart t (there ys late.place t late.at) (there xs b t other))
    | inr later ↦
        let same : late.place ≡ later.place = second late.place later.place t late.at later.at in
        omega (arith, late.far, later.far)
  ]
]

-- a term isn't below itself
not_below : (names : List Tree) (a b : ℕ) (t : Tree) → IsStrictlySortedBy compare_trees names → a < b → slice_get names a ≡ Some t → slice_get names b ≡ Some t → ⊥
not_below names a b t rising less at_a at_b =
    let below : compare_trees (get_or names a t) (get_or names b t) ≡ Less = Less-from_sorted compare_trees names a b t rising less (slice_get_within names b t at_b) in
    let left : compare_trees t (get_or names b t) ≡ Less = subst (λ x. compare_trees x (get_or names b t) ≡ Less) (get_or_from_slice_get names a t t at_a) below in
    let itself : compare_trees t t ≡ Less = subst (λ x. compare_trees t x ≡ Less) (get_or_from_slice_get names b t t at_b) left in
    let equal : compare_trees t t ≡ Equal = compare_trees-same t in
    cc

pub each_once_in_order : (names : List Tree) → IsStrictlySortedBy compare_trees names → HasEachOnce names
each_once_in_order names rising a b t at_a at_b = elim (cases_order a b) [
  | inl same ↦ same
  | inr differ ↦ elim differ [
    | inl before ↦ absurd (not_below names a b t rising before at_a at_b)
    | inr after ↦ absurd (not_below names b a t rising after at_b at_a)
  ]
]
