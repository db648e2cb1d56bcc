-- One step of `tokens_from` after another, from where `at` bytes have been passed over.
use Rattle.std.proofs.Common.{◌≡◌, ℕ, zero, suc, ◌+◌, ◌-◌, ◌<◌, ◌≤◌, Bool, true, false, cond, eqb, List, [], ◌∷◌, ◌++◌, length, drop, take_while, Option, Some, Result, Ok, Err, refl, sym, ap, ◌∙◌, subst, arith, add-zero, add-one, append_assoc}
use Rattle.std.proofs.lemmas.List.Folds.{length-prefix_len}
use Rattle.ms_text.specs.declared.token.Token.{Token}
use Rattle.ms_text.specs.declared.token.TokenKind.{TokenKind}
use Rattle.ms_text.specs.declared.token.BadByte.{BadByte}
use Rattle.ms_text.specs.Tokens.{is_blank, is_in_line, line_after, first_token, with_token, placed, tokens_from}
use Rattle.ms_lex.proofs.InLine.{line_len, HasAtMost, token_in_line}

-- these tokens, and what the rest of the text gives
abbrev pub with_tokens : List Token → Result (List Token) BadByte → Result (List Token) BadByte
with_tokens tokens (Ok more) = Ok (tokens ++ more)
with_tokens tokens (Err bad) = Err bad

pub with_tokens-push : (tokens : List Token) (t : Token) (r : Result (List Token) BadByte) → with_tokens (tokens ++ t ∷ []) r ≡ with_tokens tokens (with_token t r)
with_tokens-push tokens t (Ok more) = ap Ok (append_assoc tokens (t ∷ []) more)
with_tokens-push tokens t (Err bad) = refl

-- one byte of a skip within a line
skip_one : (k b : ℕ) (bs : List ℕ) (at line : ℕ) → ((n m : ℕ) → k ≤ line_len bs → tokens_from k bs n m ≡ tokens_from 0 (drop k bs) (n + k) m) → suc k ≤ line_len (b ∷ bs)
    → (t : Bool) → eqb b 10 ≡ t → tokens_from k bs (suc at) (cond t (suc line) line) ≡ tokens_from 0 (drop k bs) (at + suc k) line
skip_one k b bs at line h short true e = let none : suc k ≤ 0 = rw e at short in absurd (omega arith)
skip_one k b bs at line h short false e =
    let some : suc k ≤ 1 + line_len bs = rw e at short in
    let sum : at + suc k ≡ suc at + k = omega arith in
    rw sum (h (suc at) line (omega arith))

-- a skip within a line
tokens_from-skip : (k : ℕ) (bs : List ℕ) (at line : ℕ) → k ≤ line_len bs → tokens_from k bs at line ≡ tokens_from 0 (drop k bs) (at + k) line
unfolding tokens_from
tokens_from-skip zero bs at line h = rw add-zero refl
tokens_from-skip (suc k) [] at line h = refl
tokens_from-skip (suc k) (b ∷ bs) at line h = skip_one k b bs at line (tokens_from-skip k bs) h (eqb b 10) refl

-- `tokens_from` at a byte that may be a blank or begin a comment
abbrev at_byte : Bool → Bool → ℕ → List ℕ → ℕ → ℕ → Result (List Token) BadByte
at_byte blank comment b bs at line = elim blank [
  | true ↦ tokens_from 0 bs (suc at) (line_after b line)
  | false ↦ elim comment [
    | true ↦ tokens_from (length (take_while is_in_line bs)) bs (suc at) line
    | false ↦ placed (first_token (b ∷ bs)) at line (λ n. tokens_from n bs (suc at) line)
  ]
]

tokens_from-cons : (b : ℕ) (bs : List ℕ) (at line : ℕ) (blank comment : Bool) → is_blank b ≡ blank → eqb b 37 ≡ comment → tokens_from 0 (b ∷ bs) at line ≡ at_byte blank comment b bs at line
unfolding tokens_from
tokens_from-cons b bs at line blank comment e f = ap (λ t. at_byte t (eqb b 37) b bs at line) e ∙ ap (λ t. at_byte blank t b bs at line) f

-- a blank, a comment, what `first_token` finds, and a token
pub blank_step : (b : ℕ) (bs : List ℕ) (at line : ℕ) → is_blank b ≡ true → tokens_from 0 (b ∷ bs) at line ≡ tokens_from 0 bs (at + 1) (line_after b line)
blank_step b bs at line e = rw add-one (tokens_from-cons b bs at line true (eqb b 37) e refl)

pub comment_step : (b : ℕ) (bs : List ℕ) (at line : ℕ) → is_blank b ≡ false → eqb b 37 ≡ true → (n : ℕ) → n ≡ length (take_while is_in_line bs) → tokens_from 0 (b ∷ bs) at line ≡ tokens_from 0 (drop n bs) (at + (1 + n)) line
comment_step b bs at line not_blank comment n n-is =
    let sum : at + (1 + n) ≡ suc at + n = omega arith in
    let len : n ≡ line_len bs = n-is ∙ length-prefix_len is_in_line bs in
    let skip : tokens_from n bs (suc at) line ≡ tokens_from 0 (drop n bs) (suc at + n) line = tokens_from-skip n bs (suc at) line (omega arith) in
    rw sum (tokens_from-cons b bs at line false true not_blank comment ∙ ap (λ k. tokens_from k bs (suc at) line) (sym n-is) ∙ skip)

pub placed_step : (b : ℕ) (bs : List ℕ) (at line : ℕ) → is_blank b ≡ false → eqb b 37 ≡ false → (o : Option (TokenKind × ℕ)) → o ≡ first_token (b ∷ bs) → tokens_from 0 (b ∷ bs) at line ≡ placed o at line (λ n. tokens_from n bs (suc at) line)
placed_step b bs at line not_blank no_comment o e =
    tokens_from-cons b bs at line false false not_blank no_comment ∙ ap (λ p. placed p at line (λ n. tokens_from n bs (suc at) line)) (sym e)

-- what follows the first byte of a token lies within the line
within_line : (b : ℕ) (bs : List ℕ) (n : ℕ) → 0 < n → n ≤ line_len (b ∷ bs) → (t : Bool) → is_in_line b ≡ t → n - 1 ≤ line_len bs
within_line b bs n some short true e = let long : n ≤ 1 + line_len bs = rw e at short in omega arith
within_line b bs n some short false e = let none : n ≤ 0 = rw e at short in absurd (omega arith)

pub token_step : (b : ℕ) (bs : List ℕ) (at line : ℕ) → is_blank b ≡ false → eqb b 37 ≡ false → (kind : TokenKind) (n : ℕ) → 0 < n → Some (kind, n) ≡ first_token (b ∷ bs)
    → tokens_from 0 (b ∷ bs) at line ≡ with_token (record { kind = kind; start = at; end = at + n; line = line }) (tokens_from 0 (drop n (b ∷ bs)) (at + n) line)
token_step b bs at line not_blank no_comment kind zero some e = elim some [ ]
token_step b bs at line not_blank no_comment kind (suc n) some e =
    let short : suc n ≤ line_len (b ∷ bs) = subst (HasAtMost (line_len (b ∷ bs))) (sym e) (token_in_line (b ∷ bs)) in
    let sum : at + suc n ≡ suc at + n = omega arith in
    let one_less : suc n - 1 ≡ n = omega arith in
    let shorter : n ≤ line_len bs = rw one_less at (within_line b bs (suc n) some short (is_in_line b) refl) in
    let after : tokens_from (suc n - 1) bs (suc at) line ≡ tokens_from 0 (drop n bs) (at + suc n) line = rw (one_less, sum) (tokens_from-skip n bs (suc at) line shorter) in
    placed_step b bs at line not_blank no_comment (Some (kind, suc n)) e ∙ ap (λ r. with_token (record { kind = kind; start = at; end = at + suc n; line = line }) r) after
