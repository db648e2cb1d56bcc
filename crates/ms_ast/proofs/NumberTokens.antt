-- A number before a byte that doesn't go on with it is a token of its own.
use Rattle.std.proofs.Common.{◌≡◌, ℕ, ◌+◌, ◌-◌, ◌*◌, ◌/◌, ◌%◌, ◌<◌, ◌≤◌, ◌^◌, Bool, true, false, cond, eqb, ◌||◌, nat_le, List, [], ◌∷◌, ◌++◌, length, take_while, get_or, Some, None, refl, sym, ap, ◌∙◌, subst, arith, if◌then◌else◌}
use Rattle.std.specs.Prelude.{decimal}
use Rattle.std.proofs.lemmas.Bool.{eqb-true, le-leb}
use Rattle.std.proofs.lemmas.Bool.Decides.{nat_tests}
use Rattle.std.proofs.lemmas.Fmt.{decimal_by_steps, decimal_digit, decimal_nonempty, first_decimal}
use Rattle.std.proofs.lemmas.List.Sums.{take_while-cons, fold-append}
use Rattle.ms_text.specs.declared.token.TokenKind.TheVariants.{Number}
use Rattle.ms_text.specs.Tokens.{is_digit, is_lower, number_of, greatest_number, number_within, first_token, begins_with}
use Rattle.ms_grammar.specs.Words.{number}
use Rattle.ms_ast.specs.Ink.{word_text}
use Rattle.ms_ast.proofs.Apart.{IsToken, Free}
use Rattle.ms_ast.proofs.Fronts.{front_by, digit_is_word}
use Rattle.ms_ast.proofs.NameTokens.{part_of_text}

abbrev AllDigit : List ℕ → Type 0
AllDigit [] = Unit {0}
AllDigit (b ∷ bs) = (is_digit b ≡ true) × AllDigit bs

AllDigit-push : (ds : List ℕ) (b : ℕ) → AllDigit ds → is_digit b ≡ true → AllDigit (ds ++ b ∷ [])
AllDigit-push [] b h d = (d, tt)
AllDigit-push (c ∷ cs) b h d = (h.0, AllDigit-push cs b h.1 d)

digit_is : (n : ℕ) → n < 10 → is_digit (48 + n) ≡ true
digit_is n h = grind (arith, nat_tests)

-- the digits of a number, and what they stand for
record Numeral (n : ℕ) (ds : List ℕ) : Type 0 where
  digits : AllDigit ds
  value : number_of ds ≡ n

numeral-digit : (m : ℕ) → m < 10 → Numeral m ((48 + m) ∷ [])
numeral-digit m h = record { digits = (digit_is m h, tt); value = omega arith }

numeral-step : (m : ℕ) (ds : List ℕ) → 10 ≤ m → Numeral (m / 10) ds → Numeral m (ds ++ (48 + m % 10) ∷ [])
numeral-step m ds l h = record {
  digits = AllDigit-push ds (48 + m % 10) h.digits (digit_is (m % 10) (omega arith));
  value = fold-append (λ n b. 10 * n + (b - 48)) 0 ds ((48 + m % 10) ∷ []) ∙ ap (λ n. 10 * n + (48 + m % 10 - 48)) h.value ∙ omega arith;
}

numeral : (n : ℕ) → n < 2 ^ 64 → Numeral n (decimal n)
numeral n small = decimal_by_steps Numeral numeral-digit numeral-step n small

digits_end : (c : ℕ) (cs : List ℕ) (t : Bool) → is_digit c ≡ t → t ≡ false → take_while is_digit (c ∷ cs) ≡ []
digits_end c cs t e f = take_while-cons is_digit c cs ∙ ap (λ u. cond u (c ∷ take_while is_digit cs) []) (e ∙ f)

digits_more : (ds tail : List ℕ) → AllDigit ds → Free tail → take_while is_digit (ds ++ tail) ≡ ds
digits_more [] [] h f = refl
digits_more [] (c ∷ cs) h f = digits_end c cs (is_digit c) refl (digit_is_word c f)
digits_more (d ∷ ds) tail h f = take_while-cons is_digit d (ds ++ tail) ∙ ap (λ t. cond t (d ∷ take_while is_digit (ds ++ tail)) []) h.0 ∙ ap (λ cs. d ∷ cs) (digits_more ds tail h.1 f)

-- a first digit 0 stands alone
number_first : (ds tail : List ℕ) (n : ℕ) → Numeral n ds → n ≤ greatest_number → 0 < length ds → (get_or ds 0 0 ≡ 48 → ds ≡ 48 ∷ []) → Free tail → (t : Bool) → eqb (get_or ds 0 0) 48 ≡ t → Some (Number, length ds) ≡ first_token (ds ++ tail)
number_first [] tail n h small some lead f t e = absurd (omega arith)
number_first (d ∷ ds) tail n h small some lead f true e = subst (λ cs. Some (Number, length cs) ≡ first_token (cs ++ tail)) (sym (lead (eqb-true d 48 e))) refl
number_first (d ∷ ds) tail n h small some lead f false e =
    let more : take_while is_digit (ds ++ tail) ≡ ds = digits_more ds tail h.digits.1 f in
    let fits : nat_le (number_of (d ∷ ds)) greatest_number ≡ true = ap (λ m. nat_le m greatest_number) h.value ∙ le-leb n greatest_number small in
    sym (ap (λ u. front_by u (eqb d 34) (eqb d 35) (is_lower d || eqb d 95) d (ds ++ tail)) h.digits.0
    ∙ ap (λ u. if u then Some (Number, 1) else number_within (d ∷ take_while is_digit (ds ++ tail))) e
    ∙ ap (λ cs. number_within (d ∷ cs)) more
    ∙ ap (λ u. if u then Some (Number, length (d ∷ ds)) else None) fits)

leading : (n : ℕ) → n < 2 ^ 64 → get_or (decimal n) 0 0 ≡ 48 → (t : Bool) → eqb n 0 ≡ t → decimal n ≡ 48 ∷ []
leading n small e true z = ap decimal (eqb-true n 0 z) ∙ decimal_digit 0 (omega arith)
leading n small e false z =
    let some : 0 < n = grind (arith, nat_tests) in
    let more : 48 < get_or (decimal n) 0 0 = first_decimal n some small in
    absurd (omega arith)

number_token_by : (ds tail : List ℕ) (n : ℕ) → word_text (number n) ≡ ds → Numeral n (decimal n) → Some (Number, length (decimal n)) ≡ first_token (decimal n ++ tail) → 0 < length ds → IsToken (number n) tail
number_token_by [] tail n e h first some = absurd (omega arith)
number_token_by (d ∷ ds) tail n e h first some = record {
  head = d;
  rest = ds;
  text = e;
  kind = Number;
  first = first;
  inside = λ t ps. refl;
  reads = λ front line. ap (λ bs. number (number_of bs)) (part_of_text front (decimal n) tail) ∙ ap number h.value;
}

pub number_token_of : (n : ℕ) (tail : List ℕ) → n ≤ greatest_number → Free tail → IsToken (number n) tail
number_token_of n tail small f =
    let fits : n < 2 ^ 64 = omega arith in
    number_token_by (decimal n) tail n refl (numeral n fits)
    (number_first (decimal n) tail n (numeral n fits) small (decimal_nonempty n fits) (λ e. leading n fits e (eqb n 0) refl) f (eqb (get_or (decimal n) 0 0) 48) refl)
    (decimal_nonempty n fits)

digit_no_equal : (d : ℕ) → is_digit d ≡ true → eqb d 61 ≡ false
digit_no_equal d h = grind (arith, nat_tests)

digits_no_equal : (ds tail : List ℕ) → 0 < length ds → AllDigit ds → begins_with 61 (ds ++ tail) ≡ false
digits_no_equal [] tail some h = absurd (omega arith)
digits_no_equal (d ∷ ds) tail some h = digit_no_equal d h.0

pub number_no_equal : (n : ℕ) (tail : List ℕ) → n < 2 ^ 64 → begins_with 61 (decimal n ++ tail) ≡ false
number_no_equal n tail small = digits_no_equal (decimal n) tail (decimal_nonempty n small) (numeral n small).digits
