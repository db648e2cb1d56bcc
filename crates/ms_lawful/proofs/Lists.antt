-- Elements of lists, and how many there are.
use Rattle.std.proofs.Common.{ℕ, ◌≡◌, ◌≢◌, ◌∙◌, ◌<◌, ◌≤◌, ◌+◌, ◌-◌, ◌⊎◌, List, [], ◌∷◌, ◌++◌, length, get_or, drop, map, zero, suc, Option, Some, None, All, inl, inr, sym, subst, ap, refl, arith, length-append, length-drop}
use Rattle.std.specs.Prelude.{AllPairs, Contains, filter_map, remove}
use Rattle.std.specs.List.{cons_option}
use Rattle.std.proofs.lemmas.Bool.{cases_order}
use Rattle.std.proofs.lemmas.List.{drop-append-le, drop-drop, get_or_default}
use Rattle.std.proofs.lemmas.List.Elements.{All-head, All-tail}
use Rattle.std.proofs.lemmas.List.Edits.{get_or-remove_above, get_or-remove_below, length-remove}
use Rattle.ms_lawful.specs.Parts.{last_of}

pub Contains-cons : {X : Type 0} → (x y : X) (xs : List X) → Contains xs y → Contains (x ∷ xs) y
Contains-cons x y xs (k, h, e) = (suc k, omega arith, e)

pub Contains-here : {X : Type 0} → (x y : X) (xs : List X) → x ≡ y → Contains (x ∷ xs) y
Contains-here x y xs e = (0, omega arith, e)

pub Contains-cons_cases : {X : Type 0} → (x y : X) (xs : List X) → Contains (x ∷ xs) y → (x ≡ y) ⊎ Contains xs y
Contains-cons_cases x y xs (zero, h, e) = inl e
Contains-cons_cases x y xs (suc k, h, e) = inr (k, omega arith, e)

pub Contains-none : {X : Type 0} → (y : X) → Contains [] y → ⊥
Contains-none y (k, h, e) = absurd (omega arith)

pub Contains-map : {X Y : Type 0} → (f : X → Y) (x : X) (xs : List X) → Contains xs x → Contains (map f xs) (f x)
Contains-map f x [] among = absurd (Contains-none x among)
Contains-map f x (y ∷ xs) among = elim (Contains-cons_cases y x xs among) [
  | inl same ↦ Contains-here (f y) (f x) (map f xs) (ap f same)
  | inr later ↦ Contains-cons (f y) (f x) (map f xs) (Contains-map f x xs later)
]

-- What a choice of elements has comes from one of them.
pub Contains-filter_map : {X Y : Type 0} → (h : X → Option Y) (y : Y) (xs : List X) → Contains (filter_map h xs) y → (x : X) × Contains xs x × (h x ≡ Some y)
Contains-filter_map h y [] among = absurd (Contains-none y among)
Contains-filter_map {X} {Y} h y (x ∷ xs) among = at_first (h x) refl (Contains-filter_map h y xs) among
  where
    later_one : ((z : X) × Contains xs z × (h z ≡ Some y)) → (z : X) × Contains (x ∷ xs) z × (h z ≡ Some y)
    later_one (z, inside, is) = (z, Contains-cons x z xs inside, is)

    at_first : (o : Option Y) → h x ≡ o → (Contains (filter_map h xs) y → (z : X) × Contains xs z × (h z ≡ Some y)) → Contains (cons_option o (filter_map h xs)) y → (z : X) × Contains (x ∷ xs) z × (h z ≡ Some y)
    at_first None is rest among = later_one (rest among)
    at_first (Some first) is rest among = elim (Contains-cons_cases first y (filter_map h xs) among) [
      | inl same ↦ (x, Contains-here x x xs refl, is ∙ ap Some same)
      | inr later ↦ later_one (rest later)
    ]

pub filter_map-Contains : {X Y : Type 0} → (h : X → Option Y) (x : X) (y : Y) (xs : List X) → Contains xs x → h x ≡ Some y → Contains (filter_map h xs) y
filter_map-Contains h x y [] among is = absurd (Contains-none x among)
filter_map-Contains {X} {Y} h x y (z ∷ xs) among is = elim (Contains-cons_cases z x xs among) [
  | inl same ↦ subst (λ (o : Option Y). Contains (cons_option o (filter_map h xs)) y) (sym (ap h same ∙ is)) (Contains-here y y (filter_map h xs) refl)
  | inr later ↦ behind (h z) (filter_map-Contains h x y xs later is)
]
  where
    behind : (o : Option Y) → Contains (filter_map h xs) y → Contains (cons_option o (filter_map h xs)) y
    behind None among = among
    behind (Some first) among = Contains-cons first y (filter_map h xs) among

pub AllPairs-head : {X : Type 0} → (R : X → X → Type 0) (x : X) (xs : List X) → AllPairs R (x ∷ xs) → All (R x) xs
AllPairs-head R x xs pairs = λ k d h. pairs 0 (suc k) d (omega arith) (omega arith)

pub AllPairs-tail : {X : Type 0} → (R : X → X → Type 0) (x : X) (xs : List X) → AllPairs R (x ∷ xs) → AllPairs R xs
AllPairs-tail R x xs pairs = λ i j d less within. pairs (suc i) (suc j) d (omega arith) (omega arith)

-- an element that isn't the removed one
Contains-remove : {X : Type 0} → (x y : X) (ys : List X) (k : ℕ) → k < length ys → get_or ys k x ≡ x → x ≢ y → Contains ys y → Contains (remove ys k) y
Contains-remove {X} x y ys k h e differ (j, g, is) = elim (cases_order j k) [
  | inl same ↦ absurd (differ (sym e ∙ get_or_default ys k x y h ∙ ap (λ n. get_or ys n y) (sym same) ∙ is))
  | inr other ↦ elim other [
    | inl before ↦ (j, omega (arith, length-remove ys k h), get_or-remove_below ys k y j before h ∙ is)
    | inr behind ↦
        let step : (j - 1) + 1 ≡ j = omega arith in
        (j - 1, omega (arith, length-remove ys k h), get_or-remove_above ys k y (j - 1) (omega arith) h ∙ ap (λ n. get_or ys n y) step ∙ is)
  ]
]

-- Different elements of a list are at most as many as the list has.
pub different_few : {X : Type 0} → (xs ys : List X) → AllPairs (λ x later. x ≢ later) xs → All (Contains ys) xs → length xs ≤ length ys
different_few [] ys differ among = omega arith
different_few (x ∷ xs) ys differ among =
    let (k, h, e) = All-head (Contains ys) x xs among in
    let head = AllPairs-head (λ a later. a ≢ later) x xs differ in
    let rest = different_few xs (remove ys k) (AllPairs-tail (λ a later. a ≢ later) x xs differ) (λ i d g. Contains-remove x (get_or xs i d) ys k h e (head i d g) (All-tail (Contains ys) x xs among i d g)) in
    omega (arith, length-remove ys k h)

-- The last ones of the last ones and what follows are the last ones of all.
pub last_of-append : {X : Type 0} → (most : ℕ) (xs ys : List X) → last_of most (last_of most xs ++ ys) ≡ last_of most (xs ++ ys)
last_of-append most xs ys =
    let k = length xs - most in
    let inside : k ≤ length xs = omega arith in
    let front = sym (drop-append-le k xs ys inside) in
    let same : k + (length (drop k (xs ++ ys)) - most) ≡ length (xs ++ ys) - most = omega (arith, length-drop k (xs ++ ys), length-append xs ys) in
    ap (last_of most) front ∙ drop-drop (length (drop k (xs ++ ys)) - most) k (xs ++ ys) ∙ ap (λ n. drop n (xs ++ ys)) same
