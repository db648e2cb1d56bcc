-- Numbers above 0 in decimal.
use Rattle.std.proofs.Common.{◌≡◌, ◌≢◌, ℕ, ◌+◌, ◌-◌, ◌<◌, ◌≤◌, ◌^◌, ◌⊎◌, inl, inr, Bool, true, false, List, [], ◌∷◌, ◌++◌, length, get_or, refl, sym, ap, ◌∙◌, subst, arith, rules, decimal}
use Rattle.std.proofs.Math.ListN.{get_or-append}
use Rattle.std.specs.Char.{is_ascii_digit}
use Rattle.std.specs.List.{AllByRecursion, list_all}
use Rattle.std.specs.Str.Parse.{digits_value}
use Rattle.std.proofs.lemmas.Bool.{cases_lt}
use Rattle.std.proofs.lemmas.Str.Parse.{IsNumeralModel, IsDigitsTest, numerals_by_value, digit_at}
use Rattle.std.proofs.lemmas.Fmt.{digits_decimal, digits_value-decimal, decimal-digits_value, decimal_nonempty, decimal_digit, first_decimal, decimal_injective}
use Rattle.std.specs.Prelude.{Option, Some, None, MatchOption}
use Rattle.ms_lits.specs.declared.lit.Lit.{Lit}
use Rattle.ms_log.specs.NoteText.{number_text, literal_text, IsThing, IsLiteral}
use Rattle.ms_log.specs.Reading.{IsPositive, IsReadBack}

tells : IsDigitsTest (λ ds. list_all is_ascii_digit ds ≡ true)
tells = search rules

pub own : IsNumeralModel (λ ds. list_all is_ascii_digit ds ≡ true) (digits_value 10)
own = numerals_by_value _ tells

pub record IsNumeralOf (n : ℕ) (word : List ℕ) : Type 0 where
  pub some : 0 < length word
  pub digits : list_all is_ascii_digit word ≡ true
  pub low : 48 < get_or word 0 0
  pub high : get_or word 0 0 < 58
  pub value : digits_value 10 word ≡ n

pub numeral : (n : ℕ) → IsPositive n → IsNumeralOf n (decimal n)
numeral n h =
    let some = decimal_nonempty n h.1 in
    let digits = digits_decimal own n h.1 in
    let first = digit_at (decimal n) 0 (own.to (decimal n) digits) some in
    record {
      some = some;
      digits = digits;
      low = first_decimal n h.0 h.1;
      high = omega (arith, first.1);
      value = digits_value-decimal own n h.1;
    }

-- digits that don't begin with 0 are what is printed of their value
pub printed : (word : List ℕ) (n : ℕ) → 0 < length word → list_all is_ascii_digit word ≡ true → 48 < get_or word 0 0 → n ≡ digits_value 10 word → n < 2 ^ 64 → IsPositive n × (word ≡ decimal n)
printed word n some digits low is small =
    let bound : digits_value 10 word < 2 ^ 64 = omega arith in
    let text : word ≡ decimal n = sym (decimal-digits_value own word digits some (λ zero. absurd (omega arith)) bound) ∙ ap decimal (sym is) in
    let above : 0 < n = elim (cases_lt 0 n) [
      | inl more ↦ more
      | inr none ↦
          let nought : n ≡ 0 = omega arith in
          let first : word ≡ 48 ∷ [] = text ∙ ap decimal nought ∙ decimal_digit 0 (omega arith) in
          absurd (omega (arith, ap (λ xs. get_or xs 0 0) first))
    ] in
    ((above, small), text)

-- digits avoid each other byte
pub avoids : (x : ℕ) → (x < 48) ⊎ (57 < x) → (ds : List ℕ) → list_all is_ascii_digit ds ≡ true → AllByRecursion (λ b. b ≢ x) ds
avoids x outside [] h = tt
avoids x outside (c ∷ cs) h =
    let parts = tells.parts c cs h in
    ((λ e. elim outside [ inl low ↦ absurd (omega (arith, parts.0.0)) | inr high ↦ absurd (omega (arith, parts.0.1)) ]), avoids x outside cs parts.1)

pub thing_numeral : (thing : ℕ) → IsThing thing → IsNumeralOf (thing + 1) (number_text thing)
thing_numeral thing h = numeral (thing + 1) (omega arith, omega arith)

-- what is printed of a number has no space
pub bare_number : (thing : ℕ) → IsThing thing → AllByRecursion (λ b. b ≢ 32) (number_text thing)
bare_number thing h = avoids 32 (inl (omega arith)) (number_text thing) (thing_numeral thing h).digits

bare_sign : (thing : ℕ) (truth : Bool) → IsThing thing → AllByRecursion (λ b. b ≢ 32) (literal_text (record { var = thing; truth = truth }))
bare_sign thing true h = bare_number thing h
bare_sign thing false h = ((λ e. omega arith), bare_number thing h)

pub bare_literal : (lit : Lit) → IsLiteral lit → AllByRecursion (λ b. b ≢ 32) (literal_text lit)
bare_literal lit h = bare_sign lit.var lit.truth h

-- what a positive number's text is, under another name
pub numeral_of : (word : List ℕ) (n : ℕ) → IsPositive n → word ≡ decimal n → IsNumeralOf n word
numeral_of word n h e = subst (λ xs. IsNumeralOf n xs) (sym e) (numeral n h)

pub number_injective : (a b : ℕ) → IsThing a → IsThing b → number_text a ≡ number_text b → a ≡ b
number_injective a b ha hb e =
    let same : a + 1 ≡ b + 1 = decimal_injective (a + 1) (b + 1) (omega arith) (omega arith) e in
    omega arith

-- no number begins with a minus sign
pub no_minus : (thing : ℕ) (rest : List ℕ) → IsThing thing → number_text thing ≢ 45 ∷ rest
no_minus thing rest h e = let low = (thing_numeral thing h).low in absurd (omega (arith, low, ap (λ xs. get_or xs 0 0) e))

literal_by : (a b : ℕ) (s t : Bool) → IsThing a → IsThing b → literal_text (record { var = a; truth = s }) ≡ literal_text (record { var = b; truth = t }) → (a ≡ b) × (s ≡ t)
literal_by a b true true ha hb e = (number_injective a b ha hb e, refl)
literal_by a b true false ha hb e = absurd (no_minus a (number_text b) ha e)
literal_by a b false true ha hb e = absurd (no_minus b (number_text a) hb (sym e))
literal_by a b false false ha hb e = let tails : number_text a ≡ number_text b = cc in (number_injective a b ha hb tails, refl)

pub literal_injective : (k l : Lit) → IsLiteral k → IsLiteral l → literal_text k ≡ literal_text l → k ≡ l
literal_injective k l hk hl e =
    let same = literal_by k.var l.var k.truth l.truth hk hl e in
    ap (λ v. record { var = v; truth = k.truth }) same.0 ∙ ap (λ t. record { var = l.var; truth = t }) same.1

-- what begins with a literal doesn't begin with 0
no_zero_by : (thing : ℕ) (truth : Bool) (after rest : List ℕ) → IsThing thing → literal_text (record { var = thing; truth = truth }) ++ after ≢ 48 ∷ rest
no_zero_by thing true after rest h e =
    let is = thing_numeral thing h in
    let first : get_or (number_text thing ++ after) 0 0 ≡ get_or (number_text thing) 0 0 = get_or-append (number_text thing) after 0 0 is.some in
    absurd (omega (arith, is.low, first, ap (λ xs. get_or xs 0 0) e))
no_zero_by thing false after rest h e = absurd (omega (arith, ap (λ xs. get_or xs 0 0) e))

pub no_zero : (lit : Lit) (after rest : List ℕ) → IsLiteral lit → literal_text lit ++ after ≢ 48 ∷ rest
no_zero lit after rest h = no_zero_by lit.var lit.truth after rest h

-- digits that don't begin with 0 are read back
pub read_back : (word : List ℕ) (found : Option ℕ) → 0 < length word → list_all is_ascii_digit word ≡ true → 48 < get_or word 0 0 → MatchOption found (2 ^ 64 ≤ digits_value 10 word) (λ n. (n ≡ digits_value 10 word) × (n < 2 ^ 64))
    → IsReadBack decimal IsPositive word found
read_back word (Some n) some digits low is = printed word n some digits low is.0 is.1
read_back word None some digits low is = λ n h e. let w = numeral_of word n h e in absurd (omega (arith, w.value, h.1))

-- a number above 0 is that of a thing, one less, where it is small enough
pub thing_read : (word : List ℕ) (n : ℕ) → IsPositive n → word ≡ decimal n → (found : Option ℕ) → MatchOption found (2 ^ 32 ≤ n - 1) (λ m. (m ≡ n - 1) × (m < 2 ^ 32)) → IsReadBack number_text IsThing word found
thing_read word n h e (Some m) is = (is.1, e ∙ ap decimal (let same : n ≡ m + 1 = omega (arith, is.0, h.0) in same))
thing_read word n h e None is = λ m small spelled.
    let same : n ≡ m + 1 = decimal_injective n (m + 1) h.1 (omega arith) (sym e ∙ spelled) in
    absurd (omega arith)

-- behind a minus sign stands a number, and a number has none
sign_read : (digits : List ℕ) (thing : ℕ) (truth : Bool) → ((m : ℕ) → IsThing m → digits ≢ number_text m) → IsThing thing → 45 ∷ digits ≢ literal_text (record { var = thing; truth = truth })
sign_read digits thing true none h e = no_minus thing digits h (sym e)
sign_read digits thing false none h e = let tails : digits ≡ number_text thing = cc in none thing h tails

pub negative_none : (word digits : List ℕ) → word ≡ 45 ∷ digits → ((m : ℕ) → IsThing m → digits ≢ number_text m) → (lit : Lit) → IsLiteral lit → word ≢ literal_text lit
negative_none word digits is none lit h e = sign_read digits lit.var lit.truth none h (sym is ∙ e)
