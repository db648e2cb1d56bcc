-- How far a text has been read.
use Rattle.std.proofs.Common.{◌≡◌, ℕ, ◌+◌, ◌-◌, ◌<◌, ◌≤◌, Bool, true, false, eqb, List, [], ◌∷◌, ◌++◌, length, take, drop, take_while, get_or, Some, None, Ok, Err, refl, sym, ap, ◌∙◌, subst, arith, one-add}
use Rattle.std.specs.List.{AllPairs}
use Rattle.ms_lex.specs.Gives.{ComesBefore}
use Rattle.std.proofs.lemmas.Bool.{eq-eqb, ne_eqb}
use Rattle.std.proofs.lemmas.List.{append-nil, take_rest, drop-drop, length-drop}
use Rattle.std.proofs.lemmas.List.Elements.{All-weaker, All-push}
use Rattle.std.proofs.lemmas.List.Quantifiers.{all_pairs_push}
use Rattle.std.proofs.lemmas.List.Sums.{prefix_len-le-length}
use Rattle.std.proofs.lemmas.List.Folds.{length-prefix_len}
use Rattle.ms_text.specs.declared.token.Token.{Token}
use Rattle.ms_text.specs.declared.token.TokenKind.{TokenKind}
use Rattle.ms_text.specs.Tokens.{is_blank, is_in_line, line_after, first_token, tokens_from, tokens_of, LieWithin}
use Rattle.ms_lex.proofs.Steps.{with_tokens, with_tokens-push, blank_step, comment_step, placed_step, token_step}

-- The first `at` bytes of a text have been read: these are their tokens, the next byte is in this line, and
-- the rest of the text gives the other tokens.
pub record HasRead (text : List ℕ) (tokens : List Token) (at line : ℕ) : Type 0 where
  pub inside : at ≤ length text
  pub few_lines : line ≤ at + 1
  pub answer : with_tokens tokens (tokens_from 0 (drop at text) at line) ≡ tokens_of text
  pub within : LieWithin at tokens
  pub ordered : AllPairs ComesBefore tokens

-- what is left of a text
pub record IsRest (text : List ℕ) (at : ℕ) (rest : List ℕ) : Type 0 where
  pub is : rest ≡ drop at text
  pub some : 1 ≤ length rest

drop_further : (text : List ℕ) (at : ℕ) (rest : List ℕ) → rest ≡ drop at text → (n : ℕ) → drop (at + n) text ≡ drop n rest
drop_further text at rest e n = sym (drop-drop n at text) ∙ ap (drop n) (sym e)

LieWithin-further : (at n : ℕ) (tokens : List Token) → LieWithin at tokens → LieWithin (at + n) tokens
LieWithin-further at n tokens h = All-weaker (λ t. (t.start ≤ t.end) × (t.end ≤ at)) (λ t. (t.start ≤ t.end) × (t.end ≤ at + n)) (λ t g. (g.0, omega (arith, g.1))) tokens h

-- a step over bytes that are in no token
passed : (text : List ℕ) (tokens : List Token) (at line : ℕ) → HasRead text tokens at line → (rest : List ℕ) → rest ≡ drop at text → (n line' : ℕ) → n ≤ length rest → line' ≤ at + n + 1
    → tokens_from 0 rest at line ≡ tokens_from 0 (drop n rest) (at + n) line' → HasRead text tokens (at + n) line'
passed text tokens at line read rest e n line' short few step =
    let len : length rest ≡ length text - at = ap length e ∙ length-drop at text in
    record {
      inside = omega (arith, read.inside);
      few_lines = few;
      answer = rw (drop_further text at rest e n) (ap (with_tokens tokens) (sym step) ∙ ap (λ r. with_tokens tokens (tokens_from 0 r at line)) e ∙ read.answer);
      within = LieWithin-further at n tokens read.within;
      ordered = read.ordered;
    }

line_after-le : (b line : ℕ) (t : Bool) → eqb b 10 ≡ t → line_after b line ≤ line + 1
line_after-le b line true e = rw e (omega arith)
line_after-le b line false e = rw e (omega arith)

-- after a blank, a comment and a token
pub HasRead-blank : (text : List ℕ) (tokens : List Token) (at line : ℕ) → HasRead text tokens at line → (rest : List ℕ) → IsRest text at rest → is_blank (get_or rest 0 0) ≡ true
    → (next : ℕ) → next ≡ line_after (get_or rest 0 0) line → HasRead text tokens (at + 1) next
HasRead-blank text tokens at line read [] r blank next e = absurd (omega (arith, r.some))
HasRead-blank text tokens at line read (b ∷ bs) r blank next e =
    rw e (passed text tokens at line read (b ∷ bs) r.is 1 (line_after b line) r.some (omega (arith, read.few_lines, line_after-le b line (eqb b 10) refl)) (blank_step b bs at line blank))

pub HasRead-comment : (text : List ℕ) (tokens : List Token) (at line : ℕ) → HasRead text tokens at line → (rest : List ℕ) → IsRest text at rest
    → is_blank (get_or rest 0 0) ≡ false → get_or rest 0 0 ≡ 37 → (n : ℕ) → n ≡ length (take_while is_in_line (take (length rest - 1) (drop 1 rest))) → HasRead text tokens (at + (1 + n)) line
HasRead-comment text tokens at line read [] r not_blank comment n n-is = absurd (omega (arith, r.some))
HasRead-comment text tokens at line read (b ∷ bs) r not_blank comment n n-is =
    let len : n ≡ length (take_while is_in_line bs) = rw (take_rest (b ∷ bs) 1) at n-is in
    let short : n ≤ length bs = omega (arith, len ∙ length-prefix_len is_in_line bs, prefix_len-le-length is_in_line bs) in
    let next : drop (1 + n) (b ∷ bs) ≡ drop n bs = rw one-add refl in
    passed text tokens at line read (b ∷ bs) r.is (1 + n) line (omega arith) (omega (arith, read.few_lines)) (rw next (comment_step b bs at line not_blank (eq-eqb b 37 comment) n len))

pub HasRead-token : (text : List ℕ) (tokens : List Token) (at line : ℕ) → HasRead text tokens at line → (rest : List ℕ) → IsRest text at rest
    → is_blank (get_or rest 0 0) ≡ false → (get_or rest 0 0 ≡ 37 → ⊥) → (kind : TokenKind) (n : ℕ) → 0 < n → n ≤ length rest → Some (kind, n) ≡ first_token rest
    → (more : List Token) → more ≡ tokens ++ record { kind = kind; start = at; end = at + n; line = line } ∷ [] → HasRead text more (at + n) line
HasRead-token text tokens at line read [] r not_blank no_comment kind n some short first more e = absurd (omega (arith, r.some))
HasRead-token text tokens at line read (b ∷ bs) r not_blank no_comment kind n some short first more e =
    let token : Token = record { kind = kind; start = at; end = at + n; line = line } in
    let step = token_step b bs at line not_blank (ne_eqb b 37 no_comment) kind n some first in
    let len : length (b ∷ bs) ≡ length text - at = ap length r.is ∙ length-drop at text in
    let inside : at + n ≤ length text = omega (arith, read.inside, len) in
    let lies : (at ≤ at + n) × (at + n ≤ at + n) = (omega arith, omega arith) in
    subst (λ ts. HasRead text ts (at + n) line) (sym e) (record {
      inside = inside;
      few_lines = omega (arith, read.few_lines);
      answer = rw (drop_further text at (b ∷ bs) r.is n) (with_tokens-push tokens token _ ∙ ap (with_tokens tokens) (sym step) ∙ ap (λ s. with_tokens tokens (tokens_from 0 s at line)) r.is ∙ read.answer);
      within = All-push (λ t. (t.start ≤ t.end) × (t.end ≤ at + n)) tokens token (LieWithin-further at n tokens read.within) lies;
      ordered = all_pairs_push ComesBefore tokens token read.ordered (λ k d h. (read.within k d h).1);
    })

-- at a byte that begins no token, and at the end
pub HasRead-bad : (text : List ℕ) (tokens : List Token) (at line : ℕ) → HasRead text tokens at line → (rest : List ℕ) → IsRest text at rest
    → is_blank (get_or rest 0 0) ≡ false → (get_or rest 0 0 ≡ 37 → ⊥) → None ≡ first_token rest → tokens_of text ≡ Err (record { at = at; line = line })
HasRead-bad text tokens at line read [] r not_blank no_comment none = absurd (omega (arith, r.some))
HasRead-bad text tokens at line read (b ∷ bs) r not_blank no_comment none =
    let step = placed_step b bs at line not_blank (ne_eqb b 37 no_comment) None none in
    sym read.answer ∙ ap (λ s. with_tokens tokens (tokens_from 0 s at line)) (sym r.is) ∙ ap (with_tokens tokens) step

pub HasRead-all : (text : List ℕ) (tokens : List Token) (at line : ℕ) → HasRead text tokens at line → (rest : List ℕ) → rest ≡ drop at text → length rest < 1 → tokens_of text ≡ Ok tokens
unfolding tokens_from
HasRead-all text tokens at line read [] e none = sym read.answer ∙ ap (λ s. with_tokens tokens (tokens_from 0 s at line)) (sym e) ∙ ap Ok (append-nil tokens)
HasRead-all text tokens at line read (b ∷ bs) e none = absurd (omega arith)
