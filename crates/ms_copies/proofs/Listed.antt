-- The list of the choices has exactly the choices.
use Rattle.std.proofs.Common.{◌≡◌, ℤ, ◌≤ℤ◌, inl, inr, List, [], ◌∷◌, ◌++◌, map, Option, Some, None, refl, sym, ap, ◌∙◌, subst, arith}
use Rattle.std.specs.Prelude.{Contains, flat_map}
use Rattle.std.proofs.lemmas.List.Elements.{Contains-append_cases, Contains-append_left, Contains-append_right}
use Rattle.ms_base.proofs.Lists.{Contains-first, Contains-map}
use Rattle.ms_tree.specs.Tree.{Tree, number, text, function}
use Rattle.ms_core.specs.declared.rule.Range.{Range}
use Rattle.ms_copies.specs.Evaluating.{Chosen, integer, value}
use Rattle.ms_copies.specs.Choosing.{IsWithin, AreChosen}
use Rattle.ms_copies.specs.InOrder.{integers, integers_between, integers_within, choices}
use Rattle.ms_copies.proofs.Integers.{integers_bounds, integers_among, the_one}

-- the element that a list of images has it from
pub map_parts : {X Y : Type 0} (f : X → Y) (xs : List X) (y : Y) → Contains (map f xs) y → (x : X) × Contains xs x × (f x ≡ y)
map_parts f [] y (k, inside, is) = absurd (omega arith)
map_parts f (x ∷ xs) y h = elim (Contains-append_cases (f x ∷ []) (map f xs) y h) [
  | inl here ↦ (x, Contains-first x xs, the_one (f x) y here)
  | inr there ↦ let p = map_parts f xs y there in (p.0, Contains-append_right (x ∷ []) xs p.0 p.1, p.2)
]

pub flat_parts : {X Y : Type 0} (f : X → List Y) (xs : List X) (y : Y) → Contains (flat_map f xs) y → (x : X) × Contains xs x × Contains (f x) y
flat_parts f [] y (k, inside, is) = absurd (omega arith)
flat_parts f (x ∷ xs) y h = elim (Contains-append_cases (f x) (flat_map f xs) y h) [
  | inl here ↦ (x, Contains-first x xs, here)
  | inr there ↦ let p = flat_parts f xs y there in (p.0, Contains-append_right (x ∷ []) xs p.0 p.1, p.2)
]

pub flat_among : {X Y : Type 0} (f : X → List Y) (xs : List X) (x : X) (y : Y) → Contains xs x → Contains (f x) y → Contains (flat_map f xs) y
flat_among f [] x y (k, inside, is) g = absurd (omega arith)
flat_among {X} {Y} f (z ∷ xs) x y h g = elim (Contains-append_cases (z ∷ []) xs x h) [
  | inl here ↦ Contains-append_left (f z) (flat_map f xs) y (subst (λ (w : X). Contains (f w) y) (sym (the_one z x here)) g)
  | inr there ↦ Contains-append_right (f z) (flat_map f xs) y (flat_among f xs x y there g)
]

pub integer_some : (v : Option Tree) (n : ℤ) → integer v ≡ Some n → v ≡ Some (number n)
integer_some None n e = cc
integer_some (Some (number m)) n e = ap (λ o. elim o [ Some k ↦ Some (number k) | None ↦ None ]) e
integer_some (Some (text s)) n e = cc
integer_some (Some (function f ts)) n e = cc

pub integer_of_number : (v : Option Tree) (n : ℤ) → v ≡ Some (number n) → integer v ≡ Some n
integer_of_number v n e = ap integer e

between_parts : (low high : Option ℤ) (n : ℤ) → Contains (integers_between low high) n → (l : ℤ) × (h : ℤ) × (low ≡ Some l) × (high ≡ Some h) × (l ≤ℤ n) × (n ≤ℤ h)
between_parts (Some l) (Some h) n c = let b = integers_bounds l h n c in (l, h, refl, refl, b.0, b.1)
between_parts (Some l) None n (k, inside, is) = absurd (omega arith)
between_parts None high n (k, inside, is) = absurd (omega arith)

pub within_from : (before : Chosen) (range : Range) (n : ℤ) → Contains (integers_within before range) n → IsWithin before range n
within_from before range n c =
    let b = between_parts (integer (value before range.low)) (integer (value before range.high)) n c in
    record {
      low = b.0;
      high = b.1;
      low_is = integer_some (value before range.low) b.0 b.2;
      high_is = integer_some (value before range.high) b.1 b.3;
      above = b.4;
      below = b.5;
    }

pub within_to : (before : Chosen) (range : Range) (n : ℤ) → IsWithin before range n → Contains (integers_within before range) n
within_to before range n w =
    let low : integer (value before range.low) ≡ Some w.low = integer_of_number _ w.low w.low_is in
    let high : integer (value before range.high) ≡ Some w.high = integer_of_number _ w.high w.high_is in
    let same : integers w.low w.high ≡ integers_within before range = sym (ap (λ l. integers_between l (integer (value before range.high))) low ∙ ap (integers_between (Some w.low)) high) in
    subst (λ (ns : List ℤ). Contains ns n) same (integers_among w.low w.high n w.above w.below)

-- each of the list is a choice
pub choices_from : (ranges : List Range) (before c : Chosen) → Contains (choices ranges before) c → AreChosen before ranges c
unfolding choices
choices_from [] before c h = subst (λ (d : Chosen). AreChosen before [] d) (the_one [] c h) tt
choices_from (range ∷ ranges) before c h =
    let p = flat_parts (λ n. map (λ c. n ∷ c) (choices ranges (before ++ n ∷ []))) (integers_within before range) c h in
    let q = map_parts (λ c. p.0 ∷ c) (choices ranges (before ++ p.0 ∷ [])) c p.2 in
    subst (λ (d : Chosen). AreChosen before (range ∷ ranges) d) q.2 (within_from before range p.0 p.1, choices_from ranges (before ++ p.0 ∷ []) q.0 q.1)

-- and each choice is in the list
pub choices_to : (ranges : List Range) (before c : Chosen) → AreChosen before ranges c → Contains (choices ranges before) c
unfolding choices
choices_to [] before [] h = Contains-first [] []
choices_to [] before (n ∷ c) h = absurd h
choices_to (range ∷ ranges) before [] h = absurd h
choices_to (range ∷ ranges) before (n ∷ c) h =
    flat_among (λ n. map (λ c. n ∷ c) (choices ranges (before ++ n ∷ []))) (integers_within before range) n (n ∷ c) (within_to before range n h.0)
    (Contains-map (λ c. n ∷ c) (choices ranges (before ++ n ∷ [])) c (choices_to ranges (before ++ n ∷ []) c h.1))
