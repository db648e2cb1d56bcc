-- The token at the front of a text, by tests of its first byte.
use Rattle.std.proofs.Common.{◌≡◌, ℕ, Bool, true, false, eqb, ◌||◌, List, ◌∷◌, take_while, Option, arith, if◌then◌else◌}
use Rattle.std.proofs.lemmas.Bool.Decides.{nat_tests}
use Rattle.ms_text.specs.declared.token.TokenKind.{TokenKind}
use Rattle.ms_text.specs.Tokens.{is_word, is_digit, is_lower, number_token, text_token, text_len, directive_token, name_token, name_len, sign_token, first_token}

abbrev pub front_by : Bool → Bool → Bool → Bool → ℕ → List ℕ → Option (TokenKind × ℕ)
front_by digit quote hash letter b bs =
    if digit then number_token b bs else
    if quote then text_token (text_len false bs) else
    if hash then directive_token (take_while is_word bs) else
    if letter then name_token (b ∷ bs) (name_len (b ∷ bs)) else
    sign_token b bs

pub front_is : (b : ℕ) (bs : List ℕ) (digit quote hash letter : Bool) → is_digit b ≡ digit → eqb b 34 ≡ quote → eqb b 35 ≡ hash → (is_lower b || eqb b 95) ≡ letter → first_token (b ∷ bs) ≡ front_by digit quote hash letter b bs
front_is b bs digit quote hash letter d q h l = λ i. front_by (d i) (q i) (h i) (l i) b bs

pub lower_no_digit : (b : ℕ) → is_lower b ≡ true → is_digit b ≡ false
lower_no_digit b h = grind (arith, nat_tests)

pub lower_no_quote : (b : ℕ) → is_lower b ≡ true → eqb b 34 ≡ false
lower_no_quote b h = grind (arith, nat_tests)

pub lower_no_hash : (b : ℕ) → is_lower b ≡ true → eqb b 35 ≡ false
lower_no_hash b h = grind (arith, nat_tests)

pub digit_is_word : (b : ℕ) → is_word b ≡ false → is_digit b ≡ false
digit_is_word b h = grind (arith, nat_tests)
