-- Lists of numbers as sets of atoms, and back.
use Rattle.std.proofs.Common.{◌≡◌, ◌∙◌, ◌+◌, ◌<◌, ◌≤◌, ℕ, zero, suc, Bool, true, false, nat_eq, List, [], ◌∷◌, Some, length, refl, sym, ap, subst, inl, inr, arith}
use Rattle.std.specs.Prelude.{slice_get}
use Rattle.std.specs.List.{AllPairs, Any, Contains, filter}
use Rattle.std.proofs.lemmas.Bool.{cases_Bool, cases_eq, cond-false, cond-true, eq-eqb, eqb-true, false_from_ne_true, false≢true}
use Rattle.std.proofs.lemmas.Option.{slice_get_within}
use Rattle.std.proofs.lemmas.List.Elements.{All-contains}
use Rattle.std.proofs.lemmas.List.Folds.{Any-from_list_any, list_any-from_Any}
use Rattle.std.proofs.lemmas.List.Kept.{AllPairs-cons, AllPairs-from_increasing}
use Rattle.ms_base.proofs.Lists.{Contains-filter, passes-filtered}
use Rattle.ms_join.specs.Sets.{IsAtomSet, set_of}
use Rattle.ms_complete.proofs.Lists.{all_from, any_from, member_cases, member_here, member_later, member_none, member_of, none_is_some, same_some}
use Rattle.ms_solver.specs.Numbered.{IsPickedFrom, atoms_of, places}

-- ---- truths

pub alike : (t u : Bool) → (t ≡ true → u ≡ true) → (u ≡ true → t ≡ true) → t ≡ u
alike t u to back = elim (cases_Bool t) [
  | inl is ↦ is ∙ sym (to is)
  | inr fails ↦ fails ∙ sym (false_from_ne_true u (λ is. false≢true (sym fails ∙ back is)))
]

-- ---- a list as a set

pub set_of_has : (xs : List ℕ) (a : ℕ) → Contains xs a → set_of xs a ≡ true
set_of_has xs a has = list_any-from_Any (λ (b : ℕ). nat_eq b a) xs (any_from (λ (b : ℕ). nat_eq b a ≡ true) xs a has (eq-eqb a a refl))

pub has_from_set_of : (xs : List ℕ) (a : ℕ) → set_of xs a ≡ true → Contains xs a
has_from_set_of xs a is =
    let some : Any (λ (b : ℕ). nat_eq b a ≡ true) xs = Any-from_list_any (λ (b : ℕ). nat_eq b a) xs is in
    subst (Contains xs) (eqb-true some.1 a some.4) (member_of (λ (b : ℕ). nat_eq b a ≡ true) xs some)

pub set_of_lacks : (xs : List ℕ) (a : ℕ) → ¬ Contains xs a → set_of xs a ≡ false
set_of_lacks xs a lacks = false_from_ne_true (set_of xs a) (λ is. lacks (has_from_set_of xs a is))

-- ---- filters

pub filter_alike : (t u : ℕ → Bool) (xs : List ℕ) → ((x : ℕ) → Contains xs x → t x ≡ u x) → filter t xs ≡ filter u xs
filter_alike t u [] same = refl
filter_alike t u (x ∷ xs) same =
    let rest : filter t xs ≡ filter u xs = filter_alike t u xs (λ y has. same y (member_later x y xs has)) in
    let head : t x ≡ u x = same x (member_here x xs) in
    elim (cases_Bool (u x)) [
      | inl is ↦ cond-true (t x) (x ∷ filter t xs) (filter t xs) (head ∙ is) ∙ (ap (λ (ys : List ℕ). x ∷ ys) rest ∙ sym (cond-true (u x) (x ∷ filter u xs) (filter u xs) is))
      | inr fails ↦ cond-false (t x) (x ∷ filter t xs) (filter t xs) (head ∙ fails) ∙ (rest ∙ sym (cond-false (u x) (x ∷ filter u xs) (filter u xs) fails))
    ]

-- tests that leave the same of a list agree on it
pub filter_agrees : (t u : ℕ → Bool) (xs : List ℕ) → filter t xs ≡ filter u xs → (x : ℕ) → Contains xs x → t x ≡ u x
filter_agrees t u xs same x has = alike (t x) (u x)
    (λ is. passes-filtered u xs x (subst (λ (ys : List ℕ). Contains ys x) same (Contains-filter t xs x has is)))
    (λ is. passes-filtered t xs x (subst (λ (ys : List ℕ). Contains ys x) (sym same) (Contains-filter u xs x has is)))

-- what a filter leaves, as a set
pub filter_set : (t : ℕ → Bool) (xs : List ℕ) (x : ℕ) → Contains xs x → set_of (filter t xs) x ≡ t x
filter_set t xs x has = alike (set_of (filter t xs) x) (t x)
    (λ is. passes-filtered t xs x (has_from_set_of (filter t xs) x is))
    (λ is. set_of_has (filter t xs) x (Contains-filter t xs x has is))

pub filter_picked : (t : ℕ → Bool) (xs : List ℕ) → IsPickedFrom xs (filter t xs)
filter_picked t xs = filter_alike t (set_of (filter t xs)) xs (λ x has. sym (filter_set t xs x has))

-- ---- places

-- a place where a number passes
pub record IsPlace (test : ℕ → Bool) (from : ℕ) (numbers : List ℕ) (b : ℕ) : Type 0 where
  pub place : ℕ
  pub number : ℕ
  pub is : b ≡ from + place
  pub at : slice_get numbers place ≡ Some number
  pub passes : test number ≡ true

place_later : (test : ℕ → Bool) (from n : ℕ) (numbers : List ℕ) (b : ℕ) → IsPlace test (suc from) numbers b → IsPlace test from (n ∷ numbers) b
place_later test from n numbers b p = record {
  place = suc p.place;
  number = p.number;
  is = (let is : b ≡ suc from + p.place = p.is in omega (arith, is));
  at = p.at;
  passes = p.passes;
}

pub place_from : (test : ℕ → Bool) (from : ℕ) (numbers : List ℕ) (b : ℕ) → Contains (places test from numbers) b → IsPlace test from numbers b
place_from test from [] b has = absurd (member_none b has)
place_from test from (n ∷ numbers) b has =
    let rest : List ℕ = places test (suc from) numbers in
    elim (cases_Bool (test n)) [
      | inl passes ↦ elim (member_cases from b rest (subst (λ (xs : List ℕ). Contains xs b) (cond-true (test n) (from ∷ rest) rest passes) has)) [
        | inl here ↦ record { place = 0; number = n; is = (let here' : from ≡ b = here in omega (arith, here')); at = refl; passes = passes }
        | inr later ↦ place_later test from n numbers b (place_from test (suc from) numbers b later)
      ]
      | inr fails ↦ place_later test from n numbers b (place_from test (suc from) numbers b (subst (λ (xs : List ℕ). Contains xs b) (cond-false (test n) (from ∷ rest) rest fails) has))
    ]

pub place_to : (test : ℕ → Bool) (from : ℕ) (numbers : List ℕ) (b k n : ℕ) → b ≡ from + k → slice_get numbers k ≡ Some n → test n ≡ true → Contains (places test from numbers) b
place_to test from [] b k n is at passes = absurd (none_is_some n at)
place_to test from (m ∷ numbers) b zero n is at passes =
    let rest : List ℕ = places test (suc from) numbers in
    let here : from ≡ b = omega (arith, is) in
    subst (λ (xs : List ℕ). Contains xs b) (sym (cond-true (test m) (from ∷ rest) rest (ap test (same_some m n at) ∙ passes))) (subst (Contains (from ∷ rest)) here (member_here from rest))
place_to test from (m ∷ numbers) b (suc k) n is at passes =
    let rest : List ℕ = places test (suc from) numbers in
    let next : b ≡ suc from + k = omega (arith, is) in
    let later : Contains rest b = place_to test (suc from) numbers b k n next at passes in
    elim (cases_Bool (test m)) [
      | inl here ↦ subst (λ (xs : List ℕ). Contains xs b) (sym (cond-true (test m) (from ∷ rest) rest here)) (member_later from b rest later)
      | inr not_here ↦ subst (λ (xs : List ℕ). Contains xs b) (sym (cond-false (test m) (from ∷ rest) rest not_here)) later
    ]

pub places_rise : (test : ℕ → Bool) (from : ℕ) (numbers : List ℕ) → AllPairs (λ x y. x < y) (places test from numbers)
places_rise test from [] = λ i j d less within. absurd (omega (arith, within))
places_rise test from (n ∷ numbers) =
    let rest : List ℕ = places test (suc from) numbers in
    elim (cases_Bool (test n)) [
      | inl passes ↦ subst (AllPairs (λ x y. x < y)) (sym (cond-true (test n) (from ∷ rest) rest passes))
          (AllPairs-cons (λ x y. x < y) from rest
          (all_from (λ y. from < y) rest (λ y has. let p = place_from test (suc from) numbers y has in let is : y ≡ suc from + p.place = p.is in omega (arith, is)))
          (places_rise test (suc from) numbers))
      | inr fails ↦ subst (AllPairs (λ x y. x < y)) (sym (cond-false (test n) (from ∷ rest) rest fails)) (places_rise test (suc from) numbers)
    ]

pub places_set : (test : ℕ → Bool) (numbers : List ℕ) → IsAtomSet (length numbers) (places test 0 numbers)
places_set test numbers = record {
  rising = λ k within. places_rise test 0 numbers k (k + 1) 0 (omega arith) within;
  within = all_from (λ a. a < length numbers) (places test 0 numbers) (λ a has.
      let p = place_from test 0 numbers a has in
      let is : a ≡ 0 + p.place = p.is in
      let low : p.place < length numbers = slice_get_within numbers p.place p.number p.at in
      omega (arith, is, low));
}

-- the set of the places at a place
pub place_set : (test : ℕ → Bool) (numbers : List ℕ) (a n : ℕ) → slice_get numbers a ≡ Some n → set_of (places test 0 numbers) a ≡ test n
place_set test numbers a n at = alike (set_of (places test 0 numbers) a) (test n)
    (λ is.
    let p = place_from test 0 numbers a (has_from_set_of (places test 0 numbers) a is) in
    let same : a ≡ p.place = (let is : a ≡ 0 + p.place = p.is in omega (arith, is)) in
    ap test (same_some n p.number (sym at ∙ (ap (slice_get numbers) same ∙ p.at))) ∙ p.passes)
    (λ is. set_of_has (places test 0 numbers) a (place_to test 0 numbers a a n (omega arith) at is))

pub places_alike : (t u : ℕ → Bool) (from : ℕ) (numbers : List ℕ) → ((x : ℕ) → Contains numbers x → t x ≡ u x) → places t from numbers ≡ places u from numbers
places_alike t u from [] same = refl
places_alike t u from (n ∷ numbers) same =
    let xs : List ℕ = places t (suc from) numbers in
    let ys : List ℕ = places u (suc from) numbers in
    let rest : xs ≡ ys = places_alike t u (suc from) numbers (λ y has. same y (member_later n y numbers has)) in
    let head : t n ≡ u n = same n (member_here n numbers) in
    elim (cases_Bool (u n)) [
      | inl is ↦ cond-true (t n) (from ∷ xs) xs (head ∙ is) ∙ (ap (λ (zs : List ℕ). from ∷ zs) rest ∙ sym (cond-true (u n) (from ∷ ys) ys is))
      | inr fails ↦ cond-false (t n) (from ∷ xs) xs (head ∙ fails) ∙ (rest ∙ sym (cond-false (u n) (from ∷ ys) ys fails))
    ]

-- the atoms of what a test leaves
pub atoms_of_filter : (test : ℕ → Bool) (numbers : List ℕ) → atoms_of numbers (filter test numbers) ≡ places test 0 numbers
atoms_of_filter test numbers = places_alike (set_of (filter test numbers)) test 0 numbers (filter_set test numbers)

-- ---- a rising list is the list of its places

set_behind : (a : ℕ) (set : List ℕ) (x : ℕ) → (a ≡ x → ⊥) → set_of (a ∷ set) x ≡ set_of set x
set_behind a set x differ = alike (set_of (a ∷ set) x) (set_of set x)
    (λ is. elim (member_cases a x set (has_from_set_of (a ∷ set) x is)) [ inl here ↦ absurd (differ here) | inr later ↦ set_of_has set x later ])
    (λ is. set_of_has (a ∷ set) x (member_later a x set (has_from_set_of set x is)))

pub places_back :
    (test : ℕ → Bool) (from : ℕ) (numbers set : List ℕ) → AllPairs (λ x y. x < y) set → ((a : ℕ) → Contains set a → (from ≤ a) × (a < from + length numbers))
    → ((p k n : ℕ) → p ≡ from + k → slice_get numbers k ≡ Some n → test n ≡ set_of set p) → places test from numbers ≡ set
places_back test from [] [] rise between agree = refl
places_back test from [] (a ∷ set) rise between agree = let b = between a (member_here a set) in absurd (omega (arith, b.0, b.1))
places_back test from (n ∷ numbers) [] rise between agree =
    cond-false (test n) (from ∷ places test (suc from) numbers) (places test (suc from) numbers) (agree from 0 n (omega arith) refl)
    ∙ places_back test (suc from) numbers [] rise (λ a has. absurd (member_none a has)) (λ p k m is at. agree p (suc k) m (omega (arith, is)) at)
places_back test from (n ∷ numbers) (a ∷ set) rise between agree =
    let rest : List ℕ = places test (suc from) numbers in
    let bounds = between a (member_here a set) in
    let low : from ≤ a = bounds.0 in
    let above : (b : ℕ) → Contains set b → a < b = λ b has. subst (λ (c : ℕ). a < c) has.2 (rise 0 (suc has.0) b (omega arith) (omega (arith, has.1))) in
    elim (cases_eq a from) [
      | inl here ↦
          cond-true (test n) (from ∷ rest) rest (agree from 0 n (omega arith) refl ∙ set_of_has (a ∷ set) from (0, omega arith, here))
          ∙ (ap (λ (xs : List ℕ). from ∷ xs) (places_back test (suc from) numbers set (λ i j d less within. rise (suc i) (suc j) d (omega (arith, less)) (omega (arith, within)))
          (λ b has. let more = above b has in let b' = between b (member_later a b set has) in let high : b < from + length (n ∷ numbers) = b'.1 in (omega (arith, more, here), omega (arith, high)))
          (λ p k m is at. agree p (suc k) m (omega (arith, is)) at ∙ set_behind a set p (λ same. omega (arith, same, is, here))))
          ∙ ap (λ (x : ℕ). x ∷ set) (sym here))
      | inr differ ↦
          cond-false (test n) (from ∷ rest) rest (agree from 0 n (omega arith) refl ∙ set_of_lacks (a ∷ set) from (λ has. elim (member_cases a from set has) [
            | inl same ↦ differ same
            | inr later ↦ let more = above from later in absurd (omega (arith, more, low))
          ]))
          ∙ places_back test (suc from) numbers (a ∷ set) rise
          (λ b has. let b' = between b has in let high : b < from + length (n ∷ numbers) = b'.1 in elim (member_cases a b set has) [
            | inl same ↦ (omega (arith, same, low, differ), omega (arith, high))
            | inr later ↦ let more = above b later in (omega (arith, more, low), omega (arith, high))
          ])
          (λ p k m is at. agree p (suc k) m (omega (arith, is)) at)
    ]

-- A set of atoms is the list of the places where a test says what the set says.
pub atoms_back : (test : ℕ → Bool) (numbers set : List ℕ) → IsAtomSet (length numbers) set → ((a n : ℕ) → slice_get numbers a ≡ Some n → test n ≡ set_of set a) → places test 0 numbers ≡ set
atoms_back test numbers set is agree =
    places_back test 0 numbers set (AllPairs-from_increasing set is.rising)
    (λ a has. let high : a < length numbers = All-contains (λ (b : ℕ). b < length numbers) set a is.within has in (omega arith, omega (arith, high)))
    (λ p k n same at. agree k n at ∙ ap (set_of set) (let same' : p ≡ 0 + k = same in let back : k ≡ p = omega (arith, same') in back))
