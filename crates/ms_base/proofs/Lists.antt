-- Laws of lists that several crates need: what a list contains, what holds of each, and filters.
use Rattle.std.proofs.Common.{◌≡◌, ◌<◌, ◌⊎◌, zero, suc, Bool, true, List, [], ◌∷◌, ◌++◌, All, inl, inr, refl, sym, subst, ◌∙◌, ap, arith}
use Rattle.std.specs.Prelude.{map}
use Rattle.std.specs.List.{Contains, filter, flat_map}
use Rattle.std.proofs.lemmas.Bool.{cases_Bool, cond-true, cond-false}
use Rattle.std.proofs.lemmas.List.{get_or-map, length-append, length-map}
use Rattle.std.proofs.Math.ListN.{get_or-append}
use Rattle.std.proofs.lemmas.List.Elements.{All-append, All-contains, All-contains_itself, All-filter, All-nil, Contains-push, filter_passes}

pub Contains-first : {X : Type 0} (x : X) (xs : List X) → Contains (x ∷ xs) x
Contains-first x xs = (0, omega arith, refl)

pub Contains-behind : {X : Type 0} (x : X) (xs : List X) (y : X) → Contains xs y → Contains (x ∷ xs) y
Contains-behind x xs y (k, h, e) = (suc k, omega arith, e)

pub Contains-cases : {X : Type 0} (x : X) (xs : List X) (y : X) → Contains (x ∷ xs) y → (x ≡ y) ⊎ Contains xs y
Contains-cases x xs y (zero, h, e) = inl e
Contains-cases x xs y (suc k, h, e) = inr (k, omega arith, e)

pub Contains-map : {X Y : Type 0} (f : X → Y) (xs : List X) (x : X) → Contains xs x → Contains (map f xs) (f x)
Contains-map f xs x (k, h, e) = (
  k,
  subst (λ n. k < n) (sym (length-map xs f)) h,
  get_or-map f xs k x (f x) h ∙ ap f e,
)

pub Contains-filter : {X : Type 0} (p : X → Bool) (xs : List X) (x : X) → Contains xs x → p x ≡ true → Contains (filter p xs) x
Contains-filter p [] x c passes = absurd (let lt = c.1 in omega (arith, lt))
Contains-filter p (y ∷ xs) x (zero, lt, is) passes =
    subst (λ zs. Contains zs x) (sym (cond-true (p y) (y ∷ filter p xs) (filter p xs) (ap p is ∙ passes))) (zero, omega arith, is)
Contains-filter p (y ∷ xs) x (suc k, lt, is) passes =
    let rest = Contains-filter p xs x (k, omega (arith, lt), is) passes in
    elim (cases_Bool (p y)) [
      | inl yes' ↦ subst (λ zs. Contains zs x) (sym (cond-true (p y) (y ∷ filter p xs) (filter p xs) yes')) (Contains-behind y (filter p xs) x rest)
      | inr no' ↦ subst (λ zs. Contains zs x) (sym (cond-false (p y) (y ∷ filter p xs) (filter p xs) no')) rest
    ]

pub Contains-filtered : {X : Type 0} (p : X → Bool) (xs : List X) (x : X) → Contains (filter p xs) x → Contains xs x
Contains-filtered p xs x c =
    All-contains (Contains xs) (filter p xs) x (All-filter p (Contains xs) xs (All-contains_itself xs)) c

pub passes-filtered : {X : Type 0} (p : X → Bool) (xs : List X) (x : X) → Contains (filter p xs) x → p x ≡ true
passes-filtered p xs x c = All-contains (λ y. p y ≡ true) (filter p xs) x (filter_passes p xs) c

pub All-front : {X : Type 0} (P : X → Type 0) (xs ys : List X) → All P (xs ++ ys) → All P xs
All-front P xs ys all = λ k d lt. subst P (get_or-append xs ys d k lt) (all k d (omega (arith, length-append xs ys)))

pub All-last : {X : Type 0} (P : X → Type 0) (xs : List X) (x : X) → All P (xs ++ x ∷ []) → P x
All-last P xs x all = All-contains P (xs ++ x ∷ []) x all (Contains-push xs x)

pub All-flat_map : {X Y : Type 0} (P : Y → Type 0) (f : X → List Y) → ((x : X) → All P (f x)) → (xs : List X) → All P (flat_map f xs)
All-flat_map P f all [] = All-nil P
All-flat_map P f all (x ∷ xs) = All-append P (f x) (flat_map f xs) (all x) (All-flat_map P f all xs)
