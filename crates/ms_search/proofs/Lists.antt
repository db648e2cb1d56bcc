-- Lists of what keys have.
use Rattle.std.proofs.Common.{ℕ, ◌≡◌, zero, suc, List, [], ◌∷◌, Option, Some, None, true, length, drop, refl, sym, ◌∙◌, ap, arith}
use Rattle.std.specs.Prelude.{is_some}
use Rattle.std.specs.List.{All, cons_option, filter_map}

-- equal values give equal lists
pub filter_map-alike : {X : Type 0} (h g : ℕ → Option X) (xs : List ℕ) → All (λ x. h x ≡ g x) xs → filter_map h xs ≡ filter_map g xs
filter_map-alike {X} h g [] same = refl
filter_map-alike {X} h g (x ∷ xs) same =
    ap (λ (o : Option X). cons_option o (filter_map h xs)) (same 0 x (omega arith))
    ∙ ap (cons_option (g x)) (filter_map-alike h g xs (λ k d lt. same (suc k) d (omega (arith, lt))))

cons_some : {X : Type 0} (o : Option X) (xs : List X) → is_some o ≡ true → (y : X) × (cons_option o xs ≡ y ∷ xs)
cons_some None xs is = cc
cons_some (Some y) xs is = (y, refl)

-- where each has one, as many are left
pub filter_map-length : {X : Type 0} (h : ℕ → Option X) (xs : List ℕ) → All (λ x. is_some (h x) ≡ true) xs → length (filter_map h xs) ≡ length xs
filter_map-length {X} h [] some = refl
filter_map-length {X} h (x ∷ xs) some =
    let one = cons_some (h x) (filter_map h xs) (some 0 x (omega arith)) in
    let rest = filter_map-length h xs (λ k d lt. some (suc k) d (omega (arith, lt))) in
    let is = ap length one.1 in
    omega (arith, is, rest)

pub filter_map-drop : {X : Type 0} (h : ℕ → Option X) (n : ℕ) (xs : List ℕ) → All (λ x. is_some (h x) ≡ true) xs → filter_map h (drop n xs) ≡ drop n (filter_map h xs)
filter_map-drop {X} h zero xs some = refl
filter_map-drop {X} h (suc n) [] some = refl
filter_map-drop {X} h (suc n) (x ∷ xs) some =
    let one = cons_some (h x) (filter_map h xs) (some 0 x (omega arith)) in
    filter_map-drop h n xs (λ k d lt. some (suc k) d (omega (arith, lt)))
    ∙ sym (ap (drop (suc n)) one.1)
