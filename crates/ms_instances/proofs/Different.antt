-- Lists without equal members.
use Rattle.std.proofs.Common.{◌≡◌, ◌≢◌, suc, ◌<◌, ◌≤◌, Bool, true, false, cond, inl, inr, List, [], ◌∷◌, ◌++◌, map, length, AllPairs, refl, sym, ap, ◌∙◌, subst, arith, length-append, ◌⊎◌}
use Rattle.std.specs.Prelude.{⊤, Contains, flat_map, filter}
use Rattle.std.proofs.lemmas.List.Kept.{AllPairs-cons}
use Rattle.std.proofs.lemmas.List.Elements.{Contains-append_cases, Contains-append_left, Contains-append_right}
use Rattle.ms_base.proofs.Lists.{Contains-behind, Contains-cases, Contains-filtered, Contains-first, passes-filtered}
use Rattle.ms_copies.proofs.Listed.{map_parts, flat_parts}
use Rattle.ms_instances.proofs.Members.{all_from}

-- No two members are equal.
abbrev pub Different : {X : Type 0} → List X → Type 0
Different [] = ⊤
Different (x ∷ xs) = (¬ Contains xs x) × Different xs

pub nothing_in : {X : Type 0} (x : X) → Contains [] x → ⊥
nothing_in x (k, inside, is) = omega arith

pub different_pairs : {X : Type 0} (xs : List X) → Different xs → AllPairs (λ x y. x ≢ y) xs
different_pairs [] h = λ i j d less inside. absurd (omega arith)
different_pairs {X} (x ∷ xs) h =
    AllPairs-cons (λ y z. y ≢ z) x xs
    (all_from (λ y. x ≢ y) xs (λ (y : X) (c : Contains xs y). λ (e : x ≡ y). h.0 (subst (λ (z : X). Contains xs z) (sym e) c)))
    (different_pairs xs h.1)

pub pairs_different : {X : Type 0} (xs : List X) → AllPairs (λ x y. x ≢ y) xs → Different xs
pairs_different [] h = tt
pairs_different {X} (x ∷ xs) h = (
  λ (c : Contains xs x). h 0 (suc c.0) x (omega arith) (let inside : c.0 < length xs = c.1 in omega arith) (sym c.2),
  pairs_different xs (λ i j d less inside. h (suc i) (suc j) d (omega arith) (omega arith)),
)

pub different_append : {X : Type 0} (xs ys : List X) → Different xs → Different ys → ((x : X) → Contains xs x → Contains ys x → ⊥) → Different (xs ++ ys)
different_append [] ys h g apart = g
different_append {X} (x ∷ xs) ys h g apart = (
  λ (c : Contains (xs ++ ys) x). elim (Contains-append_cases xs ys x c) [
    | inl here ↦ h.0 here
    | inr there ↦ apart x (Contains-first x xs) there
  ],
  different_append xs ys h.1 g (λ y c d. apart y (Contains-behind x xs y c) d),
)

pub different_map : {X Y : Type 0} (f : X → Y) (xs : List X) → ((x z : X) → f x ≡ f z → x ≡ z) → Different xs → Different (map f xs)
different_map f [] one h = tt
different_map {X} {Y} f (x ∷ xs) one h = (
  λ (c : Contains (map f xs) (f x)). let from = map_parts f xs (f x) c in h.0 (subst (λ (z : X). Contains xs z) (one from.0 x from.2) from.1),
  different_map f xs one h.1,
)

pub different_flat : {X Y : Type 0} (f : X → List Y) (xs : List X) → ((x : X) → Different (f x)) → ((x z : X) (y : Y) → Contains (f x) y → Contains (f z) y → x ≡ z) → Different xs → Different (flat_map f xs)
different_flat f [] each one h = tt
different_flat {X} {Y} f (x ∷ xs) each one h =
    different_append (f x) (flat_map f xs) (each x) (different_flat f xs each one h.1)
    (λ (y : Y) (c : Contains (f x) y) (d : Contains (flat_map f xs) y).
    let from = flat_parts f xs y d in h.0 (subst (λ (z : X). Contains xs z) (one from.0 x y from.2 c) from.1))

-- a filtered list has those members that pass
pub filter_parts : {X : Type 0} (p : X → Bool) (xs : List X) (y : X) → Contains (filter p xs) y → Contains xs y × (p y ≡ true)
filter_parts p xs y c = (Contains-filtered p xs y c, passes-filtered p xs y c)

different_kept : {X : Type 0} (b : Bool) (x : X) (xs : List X) → (¬ Contains xs x) → Different xs → Different (cond b (x ∷ xs) xs)
different_kept true x xs n h = (n, h)
different_kept false x xs n h = h

pub different_filter : {X : Type 0} (p : X → Bool) (xs : List X) → Different xs → Different (filter p xs)
different_filter p [] h = tt
different_filter {X} p (x ∷ xs) h = different_kept (p x) x (filter p xs) (λ (c : Contains (filter p xs) x). h.0 (filter_parts p xs x c).0) (different_filter p xs h.1)

-- a list round one of its members
record Around {X : Type 0} (ys : List X) (x : X) : Type 0 where
  pub front : List X
  pub back : List X
  pub is : ys ≡ front ++ x ∷ back

around : {X : Type 0} (ys : List X) (x : X) → Contains ys x → Around ys x
around [] x c = absurd (nothing_in x c)
around {X} (y ∷ ys) x c = elim (Contains-cases y ys x c) [
  | inl same ↦ record { front = []; back = ys; is = ap (λ (z : X). z ∷ ys) same }
  | inr there ↦ let a = around ys x there in record { front = y ∷ a.front; back = a.back; is = ap (λ (zs : List X). y ∷ zs) a.is }
]

elsewhere : {X : Type 0} (front back : List X) (x y : X) → Contains (front ++ x ∷ back) y → (x ≡ y → ⊥) → Contains (front ++ back) y
elsewhere front back x y c other = elim (Contains-append_cases front (x ∷ back) y c) [
  | inl here ↦ Contains-append_left front back y here
  | inr there ↦ elim (Contains-cases x back y there) [
    | inl same ↦ absurd (other same)
    | inr behind ↦ Contains-append_right front back y behind
  ]
]

-- A list without equal members is no longer than one that has them all.
pub no_longer : {X : Type 0} (xs ys : List X) → Different xs → ((x : X) → Contains xs x → Contains ys x) → length xs ≤ length ys
no_longer [] ys h f = omega arith
no_longer {X} (x ∷ xs) ys h f =
    let a = around ys x (f x (Contains-first x xs)) in
    let less : length xs ≤ length (a.front ++ a.back) = no_longer xs (a.front ++ a.back) h.1 (λ (y : X) (c : Contains xs y).
    elsewhere a.front a.back x y (subst (λ (zs : List X). Contains zs y) a.is (f y (Contains-behind x xs y c)))
    (λ (e : x ≡ y). h.0 (subst (λ (z : X). Contains xs z) (sym e) c))) in
    omega (arith, ap length a.is, length-append a.front (x ∷ a.back), length-append a.front a.back)
