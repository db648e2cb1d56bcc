-- Rising lists, and lists without their last element.
use Rattle.std.proofs.Common.{◌≡◌, ◌+◌, ◌-◌, ◌<◌, ◌≤◌, ◌⊎◌, ℕ, zero, suc, Bool, true, leb, List, [], ◌∷◌, ◌++◌, inl, inr, length, get_or, take, sym, subst, ◌∙◌, ap, arith}
use Rattle.std.specs.List.{Contains, filter}
use Rattle.std.specs.List.Sorted.{IsStrictlyIncreasing}
use Rattle.std.proofs.lemmas.Bool.{cases_Bool, cases_lt, cond-true, cond-false, le-leb, lt-leb}
use Rattle.std.proofs.lemmas.List.{get_or_append_left, get_or_default, get_or_push, get_or-take, length-append, length-take, take_all}
use Rattle.std.proofs.lemmas.List.Elements.{All-contains, All-contains_itself, All-filter, Contains-get_or, filter_passes}
use Rattle.std.proofs.lemmas.List.Kept.{AllPairs-from_increasing}
use Rattle.ms_graph.specs.Search.{last_of}

pub rising_push : (xs : List ℕ) (y : ℕ) → IsStrictlyIncreasing xs → ((x : ℕ) → Contains xs x → x < y) → IsStrictlyIncreasing (xs ++ y ∷ [])
rising_push xs y rising below k lt =
    let len = length-append xs (y ∷ []) in
    let inside : k < length xs = omega (arith, len, lt) in
    let first = get_or_append_left xs (y ∷ []) 0 k inside in
    elim (cases_lt (k + 1) (length xs)) [
      | inl less ↦ let second = get_or_append_left xs (y ∷ []) 0 (k + 1) less in
          let up = rising k less in omega (arith, first, second, up)
      | inr more ↦ let second = get_or_push xs y 0 (k + 1) (omega (arith, more, inside)) in
          let up = below (get_or xs k 0) (Contains-get_or xs k 0 inside) in omega (arith, first, second, up)
    ]

pub rising_take : (n : ℕ) (xs : List ℕ) → IsStrictlyIncreasing xs → IsStrictlyIncreasing (take n xs)
rising_take n xs rising k lt =
    let len = length-take n xs in
    let first = get_or-take n xs k 0 (omega (arith, len, lt)) in
    let second = get_or-take n xs (k + 1) 0 (omega (arith, len, lt)) in
    let up = rising k (omega (arith, len, lt)) in
    omega (arith, first, second, up)

pub contains_take : (n : ℕ) (xs : List ℕ) (x : ℕ) → Contains (take n xs) x → Contains xs x
contains_take n xs x c =
    let len = length-take n xs in
    let lt = c.1 in
    (c.0, omega (arith, len, lt), sym (get_or-take n xs c.0 x (omega (arith, len, lt))) ∙ c.2)

-- an element is the last, or among the others
pub contains_cases : (xs : List ℕ) (x : ℕ) → Contains xs x → Contains (take (length xs - 1) xs) x ⊎ (x ≡ last_of xs)
contains_cases xs x c =
    let lt = c.1 in
    elim (cases_lt c.0 (length xs - 1)) [
      | inl less ↦ let len = length-take (length xs - 1) xs in inl (c.0, omega (arith, len, less), get_or-take (length xs - 1) xs c.0 x less ∙ c.2)
      | inr more ↦ let at : c.0 ≡ length xs - 1 = omega (arith, more, lt) in
          inr (sym c.2 ∙ get_or_default xs c.0 x 0 lt ∙ ap (λ (k : ℕ). get_or xs k 0) at)
    ]

-- in a rising list the last is the greatest
pub below_last : (xs : List ℕ) (x : ℕ) → IsStrictlyIncreasing xs → Contains (take (length xs - 1) xs) x → x < last_of xs
below_last xs x rising c =
    let len = length-take (length xs - 1) xs in
    let lt = c.1 in
    let up = AllPairs-from_increasing xs rising c.0 (length xs - 1) 0 (omega (arith, len, lt)) (omega (arith, len, lt)) in
    let read = get_or-take (length xs - 1) xs c.0 x (omega (arith, len, lt)) in
    let at = get_or_default xs c.0 x 0 (omega (arith, len, lt)) in
    let is = c.2 in
    omega (arith, up, read, at, is)

pub up_to_last : (xs : List ℕ) (x : ℕ) → IsStrictlyIncreasing xs → Contains xs x → x ≤ last_of xs
up_to_last xs x rising c = elim (contains_cases xs x c) [
  | inl other ↦ let lt = below_last xs x rising other in omega (arith, lt)
  | inr last ↦ omega (arith, last)
]

pub filtered_contained : (p : ℕ → Bool) (xs : List ℕ) (x : ℕ) → Contains (filter p xs) x → Contains xs x
filtered_contained p xs x c =
    All-contains (Contains xs) (filter p xs) x (All-filter p (Contains xs) xs (All-contains_itself xs)) c

pub filtered_passes : (p : ℕ → Bool) (xs : List ℕ) (x : ℕ) → Contains (filter p xs) x → p x ≡ true
filtered_passes p xs x c = All-contains (λ y. p y ≡ true) (filter p xs) x (filter_passes p xs) c

pub contains_later : (y : ℕ) (xs : List ℕ) (x : ℕ) → Contains xs x → Contains (y ∷ xs) x
contains_later y xs x c = (suc c.0, let lt = c.1 in omega (arith, lt), c.2)

pub contains_filtered : (p : ℕ → Bool) (xs : List ℕ) (x : ℕ) → Contains xs x → p x ≡ true → Contains (filter p xs) x
contains_filtered p [] x c passes = absurd (let lt = c.1 in omega (arith, lt))
contains_filtered p (y ∷ xs) x (zero, lt, is) passes =
    subst (λ zs. Contains zs x) (sym (cond-true (p y) (y ∷ filter p xs) (filter p xs) (ap p is ∙ passes))) (zero, omega arith, is)
contains_filtered p (y ∷ xs) x (suc k, lt, is) passes =
    let rest = contains_filtered p xs x (k, omega (arith, lt), is) passes in
    elim (cases_Bool (p y)) [
      | inl yes' ↦ subst (λ zs. Contains zs x) (sym (cond-true (p y) (y ∷ filter p xs) (filter p xs) yes')) (contains_later y (filter p xs) x rest)
      | inr no' ↦ subst (λ zs. Contains zs x) (sym (cond-false (p y) (y ∷ filter p xs) (filter p xs) no')) rest
    ]

-- the front of a list that passes, where nothing after it does
pub front_filtered : (place : ℕ) (xs : List ℕ) (n : ℕ) → ((k : ℕ) → k < n → k < length xs → get_or xs k 0 ≤ place) → ((k : ℕ) → n ≤ k → k < length xs → place < get_or xs k 0) → take n xs ≡ filter (λ x. leb x place) xs
front_filtered place [] n within beyond = take_all n [] (omega arith)
front_filtered place (x ∷ xs) zero within beyond =
    let rest = front_filtered place xs zero (λ k lt _. absurd (omega (arith, lt))) (λ k _ lt. beyond (suc k) (omega arith) (omega (arith, lt))) in
    rest ∙ sym (cond-false (leb x place) (x ∷ filter (λ y. leb y place) xs) (filter (λ y. leb y place) xs) (lt-leb x place (beyond 0 (omega arith) (omega arith))))
front_filtered place (x ∷ xs) (suc n) within beyond =
    let rest = front_filtered place xs n (λ k lt inside. within (suc k) (omega (arith, lt)) (omega (arith, inside))) (λ k le lt. beyond (suc k) (omega (arith, le)) (omega (arith, lt))) in
    ap (λ (ys : List ℕ). x ∷ ys) rest ∙ sym (cond-true (leb x place) (x ∷ filter (λ y. leb y place) xs) (filter (λ y. leb y place) xs) (le-leb x place (within 0 (omega arith) (omega arith))))

pub none_in : (xs : List ℕ) (x : ℕ) → xs ≡ [] → Contains xs x → ⊥
none_in xs x none c = let lt = subst (λ ys. c.0 < length ys) none c.1 in omega (arith, lt)
