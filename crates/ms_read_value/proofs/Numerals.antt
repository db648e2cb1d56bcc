-- A number above the greatest u64 is too great, as the greatest u64 is.
use Rattle.std.proofs.Common.{◌≡◌, ℕ, ◌-◌, ◌^◌, ◌<◌, ◌≤◌, min, leb, Bool, true, false, if◌then◌else◌, refl, ap, sym, ◌∙◌, Some, None, pos, neg_ℤ, arith, lit<}
use Rattle.std.proofs.lemmas.Bool.{leb-true, leb-false, lt-leb}
use Rattle.ms_grammar.specs.Values.{numeral, negative, value_part, value_leaf}
use Rattle.ms_grammar.specs.declared.value.Value.{Number}

least-small : (n most : ℕ) → n ≤ most → min n most ≡ n
least-small n most h = omega arith

least-great : (n most : ℕ) → most < n → min n most ≡ most
least-great n most h = omega arith

-- a choice by a limit below the greatest number
chosen : {A : Type 0} (most limit n : ℕ) (x : ℕ → A) (y : A) → limit < most → (t : Bool) → leb n most ≡ t
    → (if leb (min n most) limit then x (min n most) else y) ≡ (if leb n limit then x n else y)
chosen most limit n x y h true e = ap (λ m. if leb m limit then x m else y) (least-small n most (leb-true n most e))
chosen most limit n x y h false e =
    let great : most < n = leb-false n most e in
    ap (λ m. if leb m limit then x m else y) (least-great n most great)
    ∙ ap (λ t. if t then x most else y) (lt-leb most limit h)
    ∙ sym (ap (λ t. if t then x n else y) (lt-leb n limit (omega arith)))

pub numeral-least : (n : ℕ) → value_part (numeral (min n (2 ^ 64 - 1))) ≡ value_part (numeral n)
numeral-least n = chosen (2 ^ 64 - 1) 9223372036854775807 n (λ m. Some (value_leaf (Number (pos m)))) None (lit< tt) (leb n (2 ^ 64 - 1)) refl

pub negative-least : (n : ℕ) → value_part (negative (min n (2 ^ 64 - 1))) ≡ value_part (negative n)
negative-least n = chosen (2 ^ 64 - 1) 9223372036854775808 n (λ m. Some (value_leaf (Number (neg_ℤ (pos m))))) None (lit< tt) (leb n (2 ^ 64 - 1)) refl
