-- Lists by what holds of some, of each and of each pair of their elements.
use Rattle.std.proofs.Common.{◌≡◌, ◌≢◌, ◌∙◌, ◌⊎◌, ◌+◌, ◌<◌, ℕ, zero, suc, List, [], ◌∷◌, ◌++◌, Option, Some, None, map, take, length, get_or, refl, sym, ap, subst, inl, inr, arith, length-append}
use Rattle.std.specs.Prelude.{slice_get}
use Rattle.std.proofs.lemmas.Bool.{cases_eq, cases_lt}
use Rattle.std.proofs.lemmas.Option.{none-some, get_or_from_slice_get, slice_get-get_or, slice_get_within}
use Rattle.std.specs.List.{All, AllPairs, Any, Contains}
use Rattle.std.proofs.lemmas.List.{get_or_append_left, take_more}
use Rattle.std.proofs.lemmas.List.Elements.{All-contains_itself, Contains-append_left, Contains-append_right, Contains-append_cases}

pub none_is_some : {X : Type 0} (x : X) → None ≡ Some x → ⊥
none_is_some x e = none-some x e

pub same_some : {X : Type 0} (x y : X) → Some x ≡ Some y → x ≡ y
same_some {X} x y e = ap (λ (o : Option X). elim o [ None ↦ x | Some z ↦ z ]) e

module _ {X : Type 0} where
  pub any_from : (P : X → Type 0) (xs : List X) (x : X) → Contains xs x → P x → Any P xs
  any_from P xs x has p = (has.0, x, has.1, has.2, p)

  pub member_of : (P : X → Type 0) (xs : List X) (some : Any P xs) → Contains xs some.1
  member_of P xs some = (some.0, some.2, some.3)

  pub any_weaker : (P Q : X → Type 0) → ((x : X) → P x → Q x) → (xs : List X) → Any P xs → Any Q xs
  any_weaker P Q weaker xs some = (some.0, some.1, some.2, some.3, weaker some.1 some.4)

  pub any_left : (P : X → Type 0) (xs ys : List X) → Any P xs → Any P (xs ++ ys)
  any_left P xs ys some = any_from P (xs ++ ys) some.1 (Contains-append_left xs ys some.1 (member_of P xs some)) some.4

  pub any_right : (P : X → Type 0) (xs ys : List X) → Any P ys → Any P (xs ++ ys)
  any_right P xs ys some = any_from P (xs ++ ys) some.1 (Contains-append_right xs ys some.1 (member_of P ys some)) some.4

  pub any_cases : (P : X → Type 0) (xs ys : List X) → Any P (xs ++ ys) → Any P xs ⊎ Any P ys
  any_cases P xs ys some = elim (Contains-append_cases xs ys some.1 (member_of P (xs ++ ys) some)) [
    | inl first ↦ inl (any_from P xs some.1 first some.4)
    | inr second ↦ inr (any_from P ys some.1 second some.4)
  ]

  pub any_none : (P : X → Type 0) → ¬ Any P []
  any_none P (k, x, within, is, p) = absurd (omega arith)

  pub any_one : (P : X → Type 0) (x : X) → Any P (x ∷ []) → P x
  any_one P x (zero, y, within, is, p) = subst P (sym is) p
  any_one P x (suc k, y, within, is, p) = absurd (omega arith)

  pub any_here : (P : X → Type 0) (x : X) (xs : List X) → P x → Any P (x ∷ xs)
  any_here P x xs p = (0, x, omega arith, refl, p)

  pub any_later : (P : X → Type 0) (x : X) (xs : List X) → Any P xs → Any P (x ∷ xs)
  any_later P x xs (k, y, within, is, p) = (suc k, y, omega arith, is, p)

  -- some of the first ones and the next one
  pub any_more_cases : (P : X → Type 0) (xs : List X) (x : X) → Any P (xs ++ x ∷ []) → Any P xs ⊎ P x
  any_more_cases P xs x some = elim (any_cases P xs (x ∷ []) some) [
    | inl first ↦ inl first
    | inr last ↦ inr (any_one P x last)
  ]

  -- the elements of a loop and the next one
  pub next_one : (xs : List X) (i : ℕ) (x : X) → i < length xs → x ≡ get_or xs i x → take (i + 1) xs ≡ take i xs ++ x ∷ []
  next_one xs i x within is = take_more xs i x within ∙ ap (λ (y : X). take i xs ++ y ∷ []) (sym is)

  pub member_here : (x : X) (xs : List X) → Contains (x ∷ xs) x
  member_here x xs = (0, omega arith, refl)

  pub member_later : (x y : X) (xs : List X) → Contains xs y → Contains (x ∷ xs) y
  member_later x y xs (k, within, is) = (suc k, omega arith, is)

  pub member_none : (x : X) → ¬ Contains [] x
  member_none x (k, within, is) = absurd (omega arith)

  pub member_cases : (x y : X) (xs : List X) → Contains (x ∷ xs) y → (x ≡ y) ⊎ Contains xs y
  member_cases x y xs (zero, within, is) = inl is
  member_cases x y xs (suc k, within, is) = inr (k, omega arith, is)

  -- what is at a place is a member, and a member is at a place
  pub some_at : (xs : List X) (k : ℕ) (x : X) → slice_get xs k ≡ Some x → Contains xs x
  some_at xs k x is = (k, slice_get_within xs k x is, get_or_from_slice_get xs k x x is)

  pub at_some : (xs : List X) (x : X) → Contains xs x → (k : ℕ) × (slice_get xs k ≡ Some x)
  at_some xs x (k, within, is) = (k, slice_get-get_or xs k x within ∙ ap Some is)

  -- a place in the front of a list
  pub at_left : (xs ys : List X) (k : ℕ) (x : X) → slice_get xs k ≡ Some x → slice_get (xs ++ ys) k ≡ Some x
  at_left xs ys k x is =
      let within : k < length xs = slice_get_within xs k x is in
      let long : k < length (xs ++ ys) = omega (arith, within, length-append xs ys) in
      slice_get-get_or (xs ++ ys) k x long ∙ ap Some (get_or_append_left xs ys x k within ∙ get_or_from_slice_get xs k x x is)

  pub some_once : (xs : List X) → AllPairs (λ x y. x ≢ y) xs → (i j : ℕ) (x : X) → slice_get xs i ≡ Some x → slice_get xs j ≡ Some x → i ≡ j
  some_once xs once i j x first second =
      let at_i : get_or xs i x ≡ x = get_or_from_slice_get xs i x x first in
      let at_j : get_or xs j x ≡ x = get_or_from_slice_get xs j x x second in
      let in_i : i < length xs = slice_get_within xs i x first in
      let in_j : j < length xs = slice_get_within xs j x second in
      elim (cases_eq i j) [
        | inl same ↦ same
        | inr differ ↦ elim (cases_lt i j) [
          | inl less ↦ absurd (once i j x less in_j (at_i ∙ sym at_j))
          | inr least ↦ let more : j < i = omega (arith, least, differ) in absurd (once j i x more in_i (at_j ∙ sym at_i))
        ]
      ]

  -- what holds of each member holds of each
  pub all_from : (P : X → Type 0) (xs : List X) → ((x : X) → Contains xs x → P x) → All P xs
  all_from P xs each k d within = each (get_or xs k d) (All-contains_itself xs k d within)

pub at_map : {X Y : Type 0} (f : X → Y) (xs : List X) (k : ℕ) (x : X) → slice_get xs k ≡ Some x → slice_get (map f xs) k ≡ Some (f x)
at_map f [] k x is = absurd (none_is_some x is)
at_map f (y ∷ xs) zero x is = ap Some (ap f (same_some y x is))
at_map f (y ∷ xs) (suc k) x is = at_map f xs k x is

pub member_map : {X Y : Type 0} (f : X → Y) (xs : List X) (x : X) → Contains xs x → Contains (map f xs) (f x)
member_map f xs x has = let (k, is) = at_some xs x has in some_at (map f xs) k (f x) (at_map f xs k x is)

pub member_map_cases : {X Y : Type 0} (f : X → Y) (xs : List X) (y : Y) → Contains (map f xs) y → (x : X) × Contains xs x × (f x ≡ y)
member_map_cases f [] y has = absurd (member_none y has)
member_map_cases f (x ∷ xs) y has = elim (member_cases (f x) y (map f xs) has) [
  | inl is ↦ (x, member_here x xs, is)
  | inr later ↦ let (z, there, is) = member_map_cases f xs y later in (z, member_later x z xs there, is)
]
