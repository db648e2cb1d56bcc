-- The elements of a list that is made from another.
use Rattle.std.proofs.Common.{◌≡◌, ◌⊎◌, inl, inr, ⊎_elim, ℕ, eqb, Bool, true, false, subst, sym, zero, suc, List, [], ◌∷◌, Option, Some, None, map, ap, ◌∙◌, refl, arith}
use Rattle.std.proofs.lemmas.Bool.Decides.{Decides-eqb}
use Rattle.std.specs.List.{Any, Contains, cons_option, filter_map}

Contains-next : {X : Type 0} (y : X) (ys : List X) (x : X) → Contains ys x → Contains (y ∷ ys) x
Contains-next y ys x (k, within, at) = (suc k, omega arith, at)

Any-next : {X : Type 0} (P : X → Type 0) (y : X) (ys : List X) → Any P ys → Any P (y ∷ ys)
Any-next P y ys (k, x, within, at, holds) = (suc k, x, omega arith, at, holds)

module _ {X Y : Type 0} (f : X → Y) where
  pub Contains-map : (xs : List X) (x : X) → Contains xs x → Contains (map f xs) (f x)
  Contains-map [] x (k, within, at) = absurd (omega arith)
  Contains-map (z ∷ zs) x (zero, within, at) = (0, omega arith, ap f at)
  Contains-map (z ∷ zs) x (suc k, within, at) = Contains-next (f z) (map f zs) (f x) (Contains-map zs x (k, omega arith, at))

  pub Contains-from_map : (xs : List X) (y : Y) → Contains (map f xs) y → (x : X) × Contains xs x × (f x ≡ y)
  Contains-from_map [] y (k, within, at) = absurd (omega arith)
  Contains-from_map (z ∷ zs) y (zero, within, at) = (z, (0, omega arith, refl), at)
  Contains-from_map (z ∷ zs) y (suc k, within, at) =
      let (x, later, is) = Contains-from_map zs y (k, omega arith, at) in
      (x, Contains-next z zs x later, is)

module _ {X Y : Type 0} (f : X → Option Y) where
  from_first : (x : X) (xs : List X) (y : Y) (first : Option Y) → f x ≡ first → (Contains (filter_map f xs) y → Any (λ z. f z ≡ Some y) xs) → Contains (cons_option first (filter_map f xs)) y → Any (λ z. f z ≡ Some y) (x ∷ xs)
  from_first x xs y None is later h = Any-next (λ z. f z ≡ Some y) x xs (later h)
  from_first x xs y (Some z) is later (zero, within, at) = (0, x, omega arith, refl, is ∙ ap Some at)
  from_first x xs y (Some z) is later (suc k, within, at) = Any-next (λ z. f z ≡ Some y) x xs (later (k, omega arith, at))

  pub Any-from_filter_map : (xs : List X) (y : Y) → Contains (filter_map f xs) y → Any (λ x. f x ≡ Some y) xs
  Any-from_filter_map [] y (k, within, at) = absurd (omega arith)
  Any-from_filter_map (x ∷ xs) y h = from_first x xs y (f x) refl (Any-from_filter_map xs y) h

  Contains-cons_option : (first : Option Y) (ys : List Y) (y : Y) → Contains ys y → Contains (cons_option first ys) y
  Contains-cons_option None ys y h = h
  Contains-cons_option (Some z) ys y h = Contains-next z ys y h

  pub Contains-filter_map : (xs : List X) (y : Y) → Any (λ x. f x ≡ Some y) xs → Contains (filter_map f xs) y
  Contains-filter_map [] y (k, x, within, at, is) = absurd (omega arith)
  Contains-filter_map (z ∷ zs) y (zero, x, within, at, is) =
      let here : f z ≡ Some y = ap f at ∙ is in
      rw here (0, omega arith, refl)
  Contains-filter_map (z ∷ zs) y (suc k, x, within, at, is) =
      Contains-cons_option (f z) (filter_map f zs) y (Contains-filter_map zs y (k, x, omega arith, at, is))

module _ {X Y : Type 0} (f : X → Y) (P : Y → Type 0) where
  pub Any-map : (xs : List X) (x : X) → Contains xs x → P (f x) → Any P (map f xs)
  Any-map xs x h holds = let (k, within, at) = Contains-map f xs x h in (k, f x, within, at, holds)

  pub Any-from_map : (xs : List X) → Any P (map f xs) → (x : X) × Contains xs x × P (f x)
  Any-from_map xs (k, y, within, at, holds) = let (x, listed, is) = Contains-from_map f xs y (k, within, at) in (x, listed, subst P (sym is) holds)

same_or_not : (m n : ℕ) (b : Bool) → eqb m n ≡ b → (m ≡ n) ⊎ (m ≡ n → ⊥)
same_or_not m n true e = inl ((Decides-eqb m n).0 e)
same_or_not m n false e = inr (λ same. let alike : eqb m n ≡ true = (Decides-eqb m n).1 same in cc)

not_cons : (x : ℕ) (xs : List ℕ) (n : ℕ) → (x ≡ n → ⊥) → (Contains xs n → ⊥) → Contains (x ∷ xs) n → ⊥
not_cons x xs n apart nowhere (zero, within, at) = apart at
not_cons x xs n apart nowhere (suc k, within, at) = nowhere (k, omega arith, at)

-- a number is in a list or it isn't
pub in_or_not : (xs : List ℕ) (n : ℕ) → Contains xs n ⊎ (Contains xs n → ⊥)
in_or_not [] n = inr (λ (k, within, at). absurd (omega arith))
in_or_not (x ∷ xs) n =
    ⊎_elim
    (λ (same : x ≡ n). inl (0, omega arith, same))
    (λ (apart : x ≡ n → ⊥). ⊎_elim
    (λ (later : Contains xs n). inl (Contains-next x xs n later))
    (λ (nowhere : Contains xs n → ⊥). inr (not_cons x xs n apart nowhere))
    (in_or_not xs n))
    (same_or_not x n (eqb x n) refl)
