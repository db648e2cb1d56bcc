-- The printed bytes have the printed words as their tokens.
use Rattle.std.proofs.Common.{◌≡◌, ℕ, ◌+◌, Bool, true, false, eqb, ◌||◌, List, [], ◌∷◌, ◌++◌, length, Some, None, Ok, refl, sym, ap, ◌∙◌, subst, arith, append_assoc, length-append}
use Rattle.std.proofs.lemmas.Bool.{eqb-true}
use Rattle.std.proofs.Math.Seq.{drop-append_seam}
use Rattle.ms_text.specs.declared.token.Token.{Token}
use Rattle.ms_text.specs.declared.token.TokenKind.{TokenKind}
use Rattle.ms_text.specs.declared.token.TokenKind.TheVariants.{Dot}
use Rattle.ms_text.specs.Tokens.{tokens_from, first_token, is_blank, with_token}
use Rattle.ms_lex.proofs.Steps.{blank_step, token_step}
use Rattle.ms_grammar.specs.Words.{Word, sign, words_of, word_by_kind}
use Rattle.ms_grammar.specs.Statements.{pieces_of, before_pieces, in_first, first_line}
use Rattle.ms_ast.specs.Ink.{Ink, blank, word, ink_words, ink_text, word_text}
use Rattle.ms_ast.proofs.Apart.{IsToken, IsSentence, dot, gap, token}

blank_first : (b : ℕ) (bs : List ℕ) (p q r s : Bool) → eqb b 9 ≡ p → eqb b 10 ≡ q → eqb b 13 ≡ r → eqb b 32 ≡ s → (p || q || r || s) ≡ true → first_token (b ∷ bs) ≡ None
blank_first b bs true q r s ep eq er es h = subst (λ c. first_token (c ∷ bs) ≡ None) (sym (eqb-true b 9 ep)) refl
blank_first b bs false true r s ep eq er es h = subst (λ c. first_token (c ∷ bs) ≡ None) (sym (eqb-true b 10 eq)) refl
blank_first b bs false false true s ep eq er es h = subst (λ c. first_token (c ∷ bs) ≡ None) (sym (eqb-true b 13 er)) refl
blank_first b bs false false false true ep eq er es h = subst (λ c. first_token (c ∷ bs) ≡ None) (sym (eqb-true b 32 es)) refl
blank_first b bs false false false false ep eq er es h = cc

not_blank : (b : ℕ) (bs : List ℕ) (found : TokenKind × ℕ) → Some found ≡ first_token (b ∷ bs) → (t : Bool) → is_blank b ≡ t → t ≡ false
not_blank b bs found e true h =
    let none : first_token (b ∷ bs) ≡ None = blank_first b bs (eqb b 9) (eqb b 10) (eqb b 13) (eqb b 32) refl refl refl refl h in
    let impossible : Some found ≡ None = e ∙ none in
    cc
not_blank b bs found e false h = refl

no_comment : (b : ℕ) (bs : List ℕ) (found : TokenKind × ℕ) → Some found ≡ first_token (b ∷ bs) → (t : Bool) → eqb b 37 ≡ t → t ≡ false
no_comment b bs found e true h =
    let none : first_token (b ∷ bs) ≡ None = subst (λ c. first_token (c ∷ bs) ≡ None) (sym (eqb-true b 37 h)) refl in
    let impossible : Some found ≡ None = e ∙ none in
    cc
no_comment b bs found e false h = refl

-- one token, and the tokens of what follows
abbrev Steps : List ℕ → Type 0
Steps bytes = (tail : List ℕ) (kind : TokenKind) (at line : ℕ) → Some (kind, length bytes) ≡ first_token (bytes ++ tail)
    → tokens_from 0 (bytes ++ tail) at line ≡ with_token (record { kind = kind; start = at; end = at + length bytes; line = line }) (tokens_from 0 tail (at + length bytes) line)

steps : (head : ℕ) (rest : List ℕ) → Steps (head ∷ rest)
steps head rest tail kind at line first =
    token_step head (rest ++ tail) at line
    (not_blank head (rest ++ tail) (kind, length (head ∷ rest)) first (is_blank head) refl)
    (no_comment head (rest ++ tail) (kind, length (head ∷ rest)) first (eqb head 37) refl)
    kind (length (head ∷ rest)) (omega arith) first
    ∙ ap (λ bs. with_token (record { kind = kind; start = at; end = at + length (head ∷ rest); line = line }) (tokens_from 0 bs (at + length (head ∷ rest)) line)) (drop-append_seam (head ∷ rest) tail)

steps_at : (bytes : List ℕ) (head : ℕ) (rest : List ℕ) → bytes ≡ head ∷ rest → Steps bytes
steps_at bytes head rest e = subst Steps (sym e) (steps head rest)

-- Behind this front the ink has tokens, which are one piece, and they say its words.
pub record IsRead (front : List ℕ) (ink : List Ink) (line : ℕ) : Type 0 where
  pub tokens : List Token
  pub are : tokens_from 0 (ink_text ink) (length front) line ≡ Ok tokens
  pub words : words_of (front ++ ink_text ink) tokens ≡ ink_words ink
  pub piece : pieces_of tokens ≡ tokens ∷ []
  pub begins : first_line tokens ≡ line

read_dot : (front : List ℕ) (line : ℕ) → IsRead front (word (sign Dot) ∷ []) line
unfolding tokens_from pieces_of
read_dot front line = record {
  tokens = record { kind = Dot; start = length front; end = length front + 1; line = line } ∷ [];
  are = refl;
  words = refl;
  piece = refl;
  begins = refl;
}

read_gap : (front : List ℕ) (ink : List Ink) (line : ℕ) → IsRead (front ++ 32 ∷ []) ink line → IsRead front (blank ∷ ink) line
read_gap front ink line r =
    record {
      tokens = r.tokens;
      are = blank_step 32 (ink_text ink) (length front) line refl ∙ ap (λ n. tokens_from 0 (ink_text ink) n line) (sym (length-append front (32 ∷ []))) ∙ r.are;
      words = ap (λ text. words_of text r.tokens) (sym (append_assoc front (32 ∷ []) (ink_text ink))) ∙ r.words;
      piece = r.piece;
      begins = r.begins;
    }

more_piece : (kind : TokenKind) (t : Token) (ts : List Token) → t.kind ≡ kind → ((pieces : List (List Token)) → before_pieces kind t pieces ≡ in_first t pieces) → pieces_of ts ≡ ts ∷ [] → pieces_of (t ∷ ts) ≡ (t ∷ ts) ∷ []
unfolding pieces_of
more_piece kind t ts e inside one = ap (λ k. before_pieces k t (pieces_of ts)) e ∙ inside (pieces_of ts) ∙ ap (in_first t) one

read_token : (front : List ℕ) (w : Word) (ink : List Ink) (line : ℕ) → IsToken w (ink_text ink) → IsRead (front ++ word_text w) ink line → IsRead front (word w ∷ ink) line
read_token front w ink line h r =
    let t : Token = record { kind = h.kind; start = length front; end = length front + length (word_text w); line = line } in
    record {
      tokens = t ∷ r.tokens;
      are = steps_at (word_text w) h.head h.rest h.text (ink_text ink) h.kind (length front) line h.first
          ∙ ap (λ n. with_token t (tokens_from 0 (ink_text ink) n line)) (sym (length-append front (word_text w)))
          ∙ ap (with_token t) r.are;
      words = ap (λ ws. word_by_kind h.kind (front ++ (word_text w ++ ink_text ink)) t ∷ ws) (ap (λ text. words_of text r.tokens) (sym (append_assoc front (word_text w) (ink_text ink))) ∙ r.words)
          ∙ ap (λ v. v ∷ ink_words ink) (h.reads front line);
      piece = more_piece h.kind t r.tokens refl (h.inside t) r.piece;
      begins = refl;
    }

pub read_sentence : {ink : List Ink} → IsSentence ink → (front : List ℕ) (line : ℕ) → IsRead front ink line
read_sentence dot front line = read_dot front line
read_sentence (gap {more = more} h) front line = read_gap front more line (read_sentence h (front ++ 32 ∷ []) line)
read_sentence (token {w = w} {more = more} t h) front line = read_token front w more line t (read_sentence h (front ++ word_text w) line)
