-- Different elements of a list are no more than the list has.
use Rattle.std.proofs.Common.{◌≡◌, ◌≢◌, ℕ, zero, suc, ◌<◌, ◌≤◌, ◌⊎◌, inl, inr, Bool, true, false, nat_eq, if◌then◌else◌, List, [], ◌∷◌, length, get_or, refl, sym, ap, ◌∙◌, arith, Contains}
use Rattle.std.specs.List.{AllPairs}
use Rattle.std.proofs.lemmas.List.{get_or_default}
use Rattle.std.proofs.lemmas.Bool.Decides.{Decides-eqb}

-- the other number where this one is m
unfoldable moved : ℕ → ℕ → ℕ → ℕ
moved m x last = if nat_eq x m then last else x

moved_by : (b : Bool) (m x last : ℕ) → nat_eq x m ≡ b → ((x ≡ m) × ((if b then last else x) ≡ last)) ⊎ ((x ≢ m) × ((if b then last else x) ≡ x))
moved_by true m x last e = inl ((Decides-eqb x m).0 e, refl)
moved_by false m x last e = inr (λ same. (let other : nat_eq x m ≡ true = (Decides-eqb x m).1 same in cc), refl)

moved_cases : (m x last : ℕ) → ((x ≡ m) × (moved m x last ≡ last)) ⊎ ((x ≢ m) × (moved m x last ≡ x))
unfolding moved
moved_cases m x last = moved_by (nat_eq x m) m x last refl

-- different numbers below m are at most m
pub count_below : (n m : ℕ) (f : ℕ → ℕ) → ((i : ℕ) → i < n → f i < m) → ((i j : ℕ) → i < j → j < n → f i ≢ f j) → n ≤ m
count_below zero m f below apart = omega arith
count_below (suc n) zero f below apart = let first : f 0 < 0 = below 0 (omega arith) in absurd (omega arith)
count_below (suc n) (suc m) f below apart =
    let within : (i : ℕ) → i < n → moved m (f i) (f n) < m = λ i less.
    let here : f i < suc m = below i (omega arith) in
    let last : f n < suc m = below n (omega arith) in
    let differ : f i ≢ f n = apart i n less (omega arith) in
    elim (moved_cases m (f i) (f n)) [
      | inl is ↦ (let top : f i ≡ m = is.0 in let to : moved m (f i) (f n) ≡ f n = is.1 in omega arith)
      | inr is ↦ (let low : f i ≢ m = is.0 in let to : moved m (f i) (f n) ≡ f i = is.1 in omega arith)
    ] in
    let different : (i j : ℕ) → i < j → j < n → moved m (f i) (f n) ≢ moved m (f j) (f n) = λ i j less here same.
    let differ : f i ≢ f j = apart i j less (omega arith) in
    let first : f i ≢ f n = apart i n (omega arith) (omega arith) in
    let second : f j ≢ f n = apart j n here (omega arith) in
    elim (moved_cases m (f i) (f n)) [
      | inl is ↦ elim (moved_cases m (f j) (f n)) [
        | inl also ↦ differ (is.0 ∙ sym also.0)
        | inr other ↦ second (sym other.1 ∙ (sym same ∙ is.1))
      ]
      | inr is ↦ elim (moved_cases m (f j) (f n)) [
        | inl also ↦ first (sym is.1 ∙ (same ∙ also.1))
        | inr other ↦ differ (sym is.1 ∙ (same ∙ other.1))
      ]
    ] in
    let rest : n ≤ m = count_below n m (λ i. moved m (f i) (f n)) within different in
    omega arith

-- a first value, and those of a function after it
unfoldable from_first : ℕ → (ℕ → ℕ) → ℕ → ℕ
from_first n f zero = n
from_first n f (suc i) = f i

-- where the elements of a list stand in another one
record Stand {X : Type 0} (xs ys : List X) : Type 0 where
  place : ℕ → ℕ
  at : (i : ℕ) (d : X) → i < length xs → (place i < length ys) × (get_or ys (place i) d ≡ get_or xs i d)

stand_at : {X : Type 0} (x : X) (xs ys : List X) (n : ℕ) → n < length ys → get_or ys n x ≡ x → (rest : Stand xs ys) → (i : ℕ) (d : X) → i < length (x ∷ xs)
    → (from_first n rest.place i < length ys) × (get_or ys (from_first n rest.place i) d ≡ get_or (x ∷ xs) i d)
unfolding from_first
stand_at x xs ys n within is rest zero d less = (within, get_or_default ys n d x within ∙ is)
stand_at x xs ys n within is rest (suc i) d less = rest.at i d (omega arith)

stand : {X : Type 0} (xs ys : List X) → ((i : ℕ) (d : X) → i < length xs → Contains ys (get_or xs i d)) → Stand xs ys
stand [] ys all = record { place = λ i. i; at = λ i d less. absurd (omega arith) }
stand (x ∷ xs) ys all =
    let rest = stand xs ys (λ i d less. all (suc i) d (omega arith)) in
    let first = all zero x (omega arith) in
    record { place = from_first first.0 rest.place; at = stand_at x xs ys first.0 first.1 first.2 rest }

pub no_more : {X : Type 0} (xs ys : List X) → AllPairs (λ a b. a ≢ b) xs → ((i : ℕ) (d : X) → i < length xs → Contains ys (get_or xs i d)) → length xs ≤ length ys
no_more [] ys once all = omega arith
no_more (x ∷ xs) ys once all =
    let s = stand (x ∷ xs) ys all in
    count_below (length (x ∷ xs)) (length ys) s.place (λ i less. (s.at i x less).0)
    (λ i j less within same. once i j x less within
    (sym (s.at i x (omega arith)).1 ∙ (ap (λ k. get_or ys k x) same ∙ (s.at j x within).1)))
