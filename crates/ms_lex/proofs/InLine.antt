-- A token lies within its line.
use Rattle.std.proofs.Common.{◌≡◌, ℕ, suc, zero-le, ◌≤◌, Bool, true, false, cond, eqb, nat_le, ◌==◌, ◌||◌, List, [], ◌∷◌, length, take_while, Option, Some, None, IfSome, refl, sym, ap, ◌∙◌, subst, arith, one-add}
use Rattle.std.specs.List.{prefix_len}
use Rattle.std.specs.Option.{option_map}
use Rattle.std.proofs.lemmas.Bool.{eqb-true, false≢true}
use Rattle.std.proofs.lemmas.List.Folds.{length-prefix_len}
use Rattle.ms_text.specs.declared.token.TokenKind.{TokenKind}
use Rattle.ms_text.specs.declared.token.TokenKind.TheVariants.{Number, Dot, DotDot, Comma, Semicolon, Colon, If, LeftParen, RightParen, LeftBrace, RightBrace, Plus, Minus, Star, Slash, Backslash, Bar, Equal, EqualEqual, NotEqual, LessGreater, Less, LessEqual, Greater, GreaterEqual}
use Rattle.ms_lex.specs.Names.{is_underscore}
use Rattle.ms_lex.proofs.Strings.{escaped_len, plain_len}
use Rattle.ms_text.specs.Tokens.{is_lower, is_word, is_digit, is_escape, is_in_line, name_len, name_token, greatest_number, number_of, number_token, text_len, text_token, directive_kind, directive_token, begins_with, sign_token, first_token}

in_line_by : (p : ℕ → Bool) → p 10 ≡ false → (b : ℕ) → p b ≡ true → (t : Bool) → eqb b 10 ≡ t → is_in_line b ≡ true
in_line_by p fails b passes true e = absurd (false≢true (sym fails ∙ ap p (sym (eqb-true b 10 e)) ∙ passes))
in_line_by p fails b passes false e = rw e refl

-- a test that a line end fails is passed only by bytes within a line
in_line : (p : ℕ → Bool) → p 10 ≡ false → (b : ℕ) → p b ≡ true → is_in_line b ≡ true
in_line p fails b passes = in_line_by p fails b passes (eqb b 10) refl

prefix_len-yes : (p : ℕ → Bool) (b : ℕ) (bs : List ℕ) → p b ≡ true → prefix_len p (b ∷ bs) ≡ suc (prefix_len p bs)
prefix_len-yes p b bs e = rw (e, one-add) refl

prefix_len-le_by : (p q : ℕ → Bool) → ((b : ℕ) → p b ≡ true → q b ≡ true) → (b : ℕ) (bs : List ℕ) → prefix_len p bs ≤ prefix_len q bs → (t : Bool) → p b ≡ t → prefix_len p (b ∷ bs) ≤ prefix_len q (b ∷ bs)
prefix_len-le_by p q weaker b bs h true e = rw (prefix_len-yes p b bs e, prefix_len-yes q b bs (weaker b e)) (omega arith)
prefix_len-le_by p q weaker b bs h false e = rw e zero-le

-- a stricter test passes no more
prefix_len-le : (p q : ℕ → Bool) → ((b : ℕ) → p b ≡ true → q b ≡ true) → (bs : List ℕ) → prefix_len p bs ≤ prefix_len q bs
prefix_len-le p q weaker [] = zero-le
prefix_len-le p q weaker (b ∷ bs) = prefix_len-le_by p q weaker b bs (prefix_len-le p q weaker bs) (p b) refl

-- how many bytes of the text are in its first line
abbrev pub line_len : List ℕ → ℕ
line_len text = prefix_len is_in_line text

one_more : (p : ℕ → Bool) → p 10 ≡ false → (b : ℕ) (bs : List ℕ) → p b ≡ true → (n : ℕ) → n ≤ line_len bs → suc n ≤ line_len (b ∷ bs)
one_more p fails b bs passes n h = rw (prefix_len-yes is_in_line b bs (in_line p fails b passes)) (omega arith)

words_in_line : (bs : List ℕ) → length (take_while is_word bs) ≤ line_len bs
words_in_line bs = rw (length-prefix_len is_word bs) (prefix_len-le is_word is_in_line (in_line is_word refl) bs)

-- at most so many bytes, where there is a token
abbrev pub AtMost : ℕ → Option ℕ → Type 0
AtMost k o = IfSome o (λ n. n ≤ k)

-- a byte within the line, and then what is known of the rest
suc_in_line : (p : ℕ → Bool) → p 10 ≡ false → (b : ℕ) (bs : List ℕ) → p b ≡ true → (o : Option ℕ) → AtMost (line_len bs) o → AtMost (line_len (b ∷ bs)) (option_map suc o)
suc_in_line p fails b bs e None h = tt
suc_in_line p fails b bs e (Some n) h = one_more p fails b bs e n h

-- names
bare_in_line : (b : ℕ) (bs : List ℕ) (t : Bool) → is_lower b ≡ t → AtMost (line_len (b ∷ bs)) (cond t (Some (suc (length (take_while is_word bs)))) None)
bare_in_line b bs true e = one_more is_lower refl b bs e _ (words_in_line bs)
bare_in_line b bs false e = tt

name_in_line_by : (b : ℕ) (bs : List ℕ) → AtMost (line_len bs) (name_len bs) → (t : Bool) → eqb b 95 ≡ t → AtMost (line_len (b ∷ bs)) (name_len (b ∷ bs))
name_in_line_by b bs h true e = rw e (suc_in_line is_underscore refl b bs e (name_len bs) h)
name_in_line_by b bs h false e = rw e (bare_in_line b bs (is_lower b) refl)

name_in_line : (text : List ℕ) → AtMost (line_len text) (name_len text)
name_in_line [] = tt
name_in_line (b ∷ bs) = name_in_line_by b bs (name_in_line bs) (eqb b 95) refl

-- strings
escaped_in_line : (b : ℕ) (bs : List ℕ) → AtMost (line_len bs) (text_len false bs) → (t : Bool) → is_escape b ≡ t → AtMost (line_len (b ∷ bs)) (escaped_len t bs)
escaped_in_line b bs h true e = suc_in_line is_escape refl b bs e (text_len false bs) h
escaped_in_line b bs h false e = tt

plain_in_line : (b : ℕ) (bs : List ℕ) (backslash : Bool) → AtMost (line_len bs) (text_len backslash bs) → (t s : Bool) → eqb b 34 ≡ t → eqb b 10 ≡ s → AtMost (line_len (b ∷ bs)) (plain_len t s backslash bs)
plain_in_line b bs backslash h true s e f = one_more (λ x. eqb x 34) refl b bs e 0 zero-le
plain_in_line b bs backslash h false true e f = tt
plain_in_line b bs backslash h false false e f = suc_in_line is_in_line refl b bs (rw f refl) (text_len backslash bs) h

text_in_line : (bs : List ℕ) (escaped : Bool) → AtMost (line_len bs) (text_len escaped bs)
unfolding text_len
text_in_line [] escaped = tt
text_in_line (b ∷ bs) true = escaped_in_line b bs (text_in_line bs false) (is_escape b) refl
text_in_line (b ∷ bs) false = plain_in_line b bs (eqb b 92) (text_in_line bs (eqb b 92)) (eqb b 34) (eqb b 10) refl refl

-- the token has at most so many bytes
abbrev pub HasAtMost : ℕ → Option (TokenKind × ℕ) → Type 0
HasAtMost k o = IfSome o (λ found. found.1 ≤ k)

name_token_in_line : (k : ℕ) (text : List ℕ) (o : Option ℕ) → AtMost k o → HasAtMost k (name_token text o)
name_token_in_line k text None h = tt
name_token_in_line k text (Some n) h = h

text_token_in_line : (b : ℕ) (bs : List ℕ) → eqb b 34 ≡ true → (o : Option ℕ) → AtMost (line_len bs) o → HasAtMost (line_len (b ∷ bs)) (text_token o)
text_token_in_line b bs e None h = tt
text_token_in_line b bs e (Some n) h = one_more (λ x. eqb x 34) refl b bs e n h

kind_in_line : (n k : ℕ) → n ≤ k → (o : Option TokenKind) → HasAtMost k (option_map (λ kind. (kind, n)) o)
kind_in_line n k h None = tt
kind_in_line n k h (Some kind) = h

directive_in_line : (b : ℕ) (bs : List ℕ) → eqb b 35 ≡ true → HasAtMost (line_len (b ∷ bs)) (directive_token (take_while is_word bs))
directive_in_line b bs e = kind_in_line _ _ (one_more (λ x. eqb x 35) refl b bs e _ (words_in_line bs)) (directive_kind (take_while is_word bs))

-- the same as a record, whose arguments can be found from it
record IsShort (k : ℕ) (o : Option (TokenKind × ℕ)) : Type 0 where
  short : HasAtMost k o

either : {k : ℕ} {p q : Option (TokenKind × ℕ)} (t : Bool) → IsShort k p → IsShort k q → IsShort k (cond t p q)
either true h g = h
either false h g = g

-- numbers
number_in_line : (b : ℕ) (bs : List ℕ) → is_digit b ≡ true → IsShort (line_len (b ∷ bs)) (number_token b bs)
number_in_line b bs e =
    let digits : length (take_while is_digit bs) ≤ line_len bs = rw (length-prefix_len is_digit bs) (prefix_len-le is_digit is_in_line (in_line is_digit refl) bs) in
    let few : IsShort (line_len (b ∷ bs)) (Some (Number, suc (length (take_while is_digit bs)))) = record { short = one_more is_digit refl b bs e _ digits } in
    let none : IsShort (line_len (b ∷ bs)) None = record { short = tt } in
    either (b == 48) (record { short = one_more is_digit refl b bs e 0 zero-le }) (either (nat_le (number_of (b ∷ take_while is_digit bs)) greatest_number) few none)

-- signs
second_in_line : (second : ℕ) → is_in_line second ≡ true → (bs : List ℕ) → begins_with second bs ≡ true → 1 ≤ line_len bs
second_in_line second h [] e = absurd (false≢true e)
second_in_line second h (c ∷ cs) e = one_more is_in_line refl c cs (ap is_in_line (eqb-true c second e) ∙ h) 0 zero-le

longer_in_line : (second : ℕ) → is_in_line second ≡ true → (kind : TokenKind) (b : ℕ) (bs : List ℕ) → is_in_line b ≡ true → (shorter : Option (TokenKind × ℕ)) → IsShort (line_len (b ∷ bs)) shorter → (t : Bool) → begins_with second bs ≡ t
    → IsShort (line_len (b ∷ bs)) (cond t (Some (kind, 2)) shorter)
longer_in_line second h kind b bs in_b shorter short true e = record { short = one_more is_in_line refl b bs in_b 1 (second_in_line second h bs e) }
longer_in_line second h kind b bs in_b shorter short false e = short

sign_in_line_by : (b : ℕ) (bs : List ℕ) (t : Bool) → eqb b 10 ≡ t → IsShort (line_len (b ∷ bs)) (sign_token b bs)
sign_in_line_by b bs true e = subst (λ c. IsShort (line_len (c ∷ bs)) (sign_token c bs)) (sym (eqb-true b 10 e)) (record { short = tt })
sign_in_line_by b bs false e =
    let in_b : is_in_line b ≡ true = rw e refl in
    let none : IsShort (line_len (b ∷ bs)) None = record { short = tt } in
    let one = λ (kind : TokenKind). let s : IsShort (line_len (b ∷ bs)) (Some (kind, 1)) = record { short = one_more is_in_line refl b bs in_b 0 zero-le } in s in
    let two = λ (kind : TokenKind) (second : ℕ) (h : is_in_line second ≡ true) (shorter : Option (TokenKind × ℕ)) (short : IsShort (line_len (b ∷ bs)) shorter). longer_in_line second h kind b bs in_b shorter short (begins_with second bs) refl in
    either (b == 46) (two DotDot 46 refl _ (one Dot))
    (either (b == 44) (one Comma)
    (either (b == 59) (one Semicolon)
    (either (b == 58) (two If 45 refl _ (one Colon))
    (either (b == 40) (one LeftParen)
    (either (b == 41) (one RightParen)
    (either (b == 123) (one LeftBrace)
    (either (b == 125) (one RightBrace)
    (either (b == 43) (one Plus)
    (either (b == 45) (one Minus)
    (either (b == 42) (one Star)
    (either (b == 47) (one Slash)
    (either (b == 92) (one Backslash)
    (either (b == 124) (one Bar)
    (either (b == 61) (two EqualEqual 61 refl _ (one Equal))
    (either (b == 33) (two NotEqual 61 refl _ none)
    (either (b == 60) (two LessGreater 62 refl _ (two LessEqual 61 refl _ (one Less)))
    (either (b == 62) (two GreaterEqual 61 refl _ (one Greater)) none)))))))))))))))))

-- the tests of `first_token`
first_in_line : (b : ℕ) (bs : List ℕ) (digit quote sign : Bool) → is_digit b ≡ digit → eqb b 34 ≡ quote → eqb b 35 ≡ sign
    → HasAtMost (line_len (b ∷ bs)) (cond digit (number_token b bs) (cond quote (text_token (text_len false bs)) (cond sign (directive_token (take_while is_word bs)) (cond (is_lower b || (b == 95)) (name_token (b ∷ bs) (name_len (b ∷ bs))) (sign_token b bs)))))
first_in_line b bs true quote sign e f g = (number_in_line b bs e).short
first_in_line b bs false true sign e f g = text_token_in_line b bs f (text_len false bs) (text_in_line bs false)
first_in_line b bs false false true e f g = directive_in_line b bs g
first_in_line b bs false false false e f g = (either (is_lower b || (b == 95)) (record { short = name_token_in_line _ (b ∷ bs) (name_len (b ∷ bs)) (name_in_line (b ∷ bs)) }) (sign_in_line_by b bs (eqb b 10) refl)).short

-- the token at the front of a text lies within the text's first line
pub token_in_line : (text : List ℕ) → HasAtMost (line_len text) (first_token text)
token_in_line [] = tt
token_in_line (b ∷ bs) = first_in_line b bs (is_digit b) (eqb b 34) (eqb b 35) refl refl refl
