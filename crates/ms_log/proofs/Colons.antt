-- The last colon of a text.
use Rattle.std.proofs.Common.{◌≡◌, ◌≢◌, ℕ, ◌+◌, ◌-◌, ◌<◌, ◌≤◌, zero, suc, inr, take, drop, List, [], ◌∷◌, ◌++◌, length, All, get_or, refl, sym, ap, ◌∙◌, subst, arith, length-append, append_assoc}
use Rattle.std.proofs.Math.Seq.{get_or-append_seam}
use Rattle.std.specs.List.{AllByRecursion}
use Rattle.std.proofs.lemmas.List.Elements.{recursion_from_All, All-from_recursion}
use Rattle.std.proofs.lemmas.List.{append_cancel_right, take_all, take_more}
use Rattle.ms_log.specs.NoteText.{numbers_text, number_text, IsThing}
use Rattle.ms_log.specs.Reading.{HasNoColon, IsDeclared, declared_text}
use Rattle.ms_log.proofs.Numerals.{avoids, thing_numeral}

pub has_one : (front back : List ℕ) → HasNoColon (front ++ 58 ∷ back) → ⊥
has_one front back h = h (length front) 0 (omega (arith, length-append front (58 ∷ back))) (get_or-append_seam front 58 back 0)

-- a text is cut in one way at its last colon
pub one_last : (a b c d : List ℕ) → HasNoColon b → HasNoColon d → a ++ 58 ∷ b ≡ c ++ 58 ∷ d → (a ≡ c) × (b ≡ d)
one_last [] b [] d hb hd e = let tails : b ≡ d = cc in (refl, tails)
one_last [] b (y ∷ c) d hb hd e = let tails : b ≡ c ++ 58 ∷ d = cc in absurd (has_one c d (subst (λ xs. HasNoColon xs) tails hb))
one_last (x ∷ a) b [] d hb hd e = let tails : d ≡ a ++ 58 ∷ b = cc in absurd (has_one a b (subst (λ xs. HasNoColon xs) tails hd))
one_last (x ∷ a) b (y ∷ c) d hb hd e =
    let heads : x ≡ y = cc in
    let tails : a ++ 58 ∷ b ≡ c ++ 58 ∷ d = cc in
    let rest = one_last a b c d hb hd tails in
    let fronts : a ≡ c = rest.0 in
    let both : x ∷ a ≡ y ∷ c = cc in
    (both, rest.1)

pub no_colon : (text : List ℕ) (n : ℕ) → n < 1 → HasNoColon (drop n text) → (front back : List ℕ) → text ≢ front ++ 58 ∷ back
no_colon text zero few h front back e = has_one front back (subst (λ xs. HasNoColon xs) e h)
no_colon text (suc n) few h front back e = absurd (omega arith)

-- a list of numbers has no colon
abbrev Clear : List ℕ → Type 0
Clear text = AllByRecursion (λ b. b ≢ 58) text

clear_append : (xs ys : List ℕ) → Clear xs → Clear ys → Clear (xs ++ ys)
clear_append [] ys hx hy = hy
clear_append (x ∷ xs) ys hx hy = (hx.0, clear_append xs ys hx.1 hy)

clear_numbers : (numbers : List ℕ) → AllByRecursion IsThing numbers → Clear (numbers_text numbers)
clear_numbers [] h = tt
clear_numbers (n ∷ ns) h = ((λ e. omega arith), clear_append (number_text n) (numbers_text ns) (avoids 58 (inr (omega arith)) (number_text n) (thing_numeral n h.0).digits) (clear_numbers ns h.1))

pub numbers_no_colon : (numbers : List ℕ) → All IsThing numbers → HasNoColon (numbers_text numbers)
numbers_no_colon numbers h = All-from_recursion (λ b. b ≢ 58) (numbers_text numbers) (clear_numbers numbers (recursion_from_All IsThing numbers h))

-- the text of what is declared, cut at its last colon
pub declared_split : (name numbers : List ℕ) → declared_text (name, numbers) ≡ ((32 ∷ name) ++ 32 ∷ []) ++ 58 ∷ numbers_text numbers
declared_split name numbers = simp append_assoc

pub declared_cut : (text a b : List ℕ) → text ≡ a ++ 58 ∷ b → HasNoColon b → (x : List ℕ × List ℕ) → IsDeclared x → text ≡ declared_text x → (a ≡ (32 ∷ x.0) ++ 32 ∷ []) × (b ≡ numbers_text x.1)
declared_cut text a b cut none x h e =
    one_last a b ((32 ∷ x.0) ++ 32 ∷ []) (numbers_text x.1) none (numbers_no_colon x.1 h.1) (sym cut ∙ e ∙ declared_split x.0 x.1)

pub one_name : (x y : List ℕ × List ℕ) → IsDeclared x → IsDeclared y → declared_text x ≡ declared_text y → (x.0 ≡ y.0) × (numbers_text x.1 ≡ numbers_text y.1)
one_name x y hx hy e =
    let cut = declared_cut (declared_text x) ((32 ∷ x.0) ++ 32 ∷ []) (numbers_text x.1) (declared_split x.0 x.1) (numbers_no_colon x.1 hx.1) y hy e in
    let fronts : 32 ∷ x.0 ≡ 32 ∷ y.0 = append_cancel_right (32 ∷ x.0) (32 ∷ y.0) (32 ∷ []) cut.0 in
    let names : x.0 ≡ y.0 = cc in
    (names, cut.1)

-- what stands before a byte at the end
abbrev pub before : List ℕ → List ℕ
before text = take (length text - 1) text

pub end_is : (text : List ℕ) (b : ℕ) → 1 ≤ length text → get_or text (length text - 1) 0 ≡ b → text ≡ before text ++ b ∷ []
end_is text b some e =
    let i = length text - 1 in
    let last : i < length text = omega arith in
    let whole : i + 1 ≡ length text = omega arith in
    sym (take_all (i + 1) text (omega arith)) ∙ take_more text i 0 last ∙ ap (λ c. take i text ++ c ∷ []) e

pub not_ended : (text front : List ℕ) → text ≡ front ++ 32 ∷ [] → (1 ≤ length text) × (get_or text (length text - 1) 0 ≡ 32)
not_ended text front e =
    let long : length text ≡ length front + 1 = ap length e ∙ length-append front (32 ∷ []) in
    let place : length text - 1 ≡ length front = omega arith in
    (omega arith, ap (λ i. get_or text i 0) place ∙ ap (λ xs. get_or xs (length front) 0) e ∙ get_or-append_seam front 32 [] 0)
