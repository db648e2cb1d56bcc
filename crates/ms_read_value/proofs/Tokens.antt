-- One token after another.
use Rattle.std.proofs.Common.{◌≡◌, ℕ, suc, ◌≤◌, List, [], ◌∷◌, length, None, ap, sym, ◌∙◌, arith}
use Rattle.std.proofs.lemmas.List.Elements.{All-rest}
use Rattle.ms_text.specs.declared.token.Token.{Token}
use Rattle.ms_text.specs.Tokens.{LieWithin}
use Rattle.ms_grammar.specs.Words.{word_of, words_of}
use Rattle.ms_read_value.specs.declared.lexemes.Lexeme.{Lexeme}
use Rattle.ms_read_value.specs.declared.reader.Reader.{Reader}
use Rattle.ms_read_value.specs.declared.reader.Progress.{Progress}
use Rattle.ms_read_value.specs.declared.reader.Progress.TheVariants.{Within}
use Rattle.ms_read_value.specs.Lexemes.{lexeme_of}
use Rattle.ms_read_value.specs.Machine.{step_at}
use Rattle.ms_read_value.specs.Front.{read_on, left}
use Rattle.ms_read_value.proofs.Steps.{found_at-word, found_at-end}

-- The reader is so far that it finds in the rest what it was to find in the tokens.
pub record HasRead (text : List ℕ) (start : Progress) (tokens : List Token) (progress : Progress) (rest : List Token) : Type 0 where
  pub inside : LieWithin (length text) rest
  pub shorter : length rest ≤ length tokens
  pub same : left (read_on progress (words_of text rest)) ≡ left (read_on start (words_of text tokens))

module _ (text : List ℕ) (start : Progress) (tokens : List Token) (progress : Progress) (rest : List Token) (read : HasRead text start tokens progress rest) (reader : Reader) (is : progress ≡ Within reader) where
  nothing_in : (ts : List Token) → length ts ≡ 0 → left (read_on (Within reader) (words_of text ts)) ≡ None
  nothing_in [] e = ap left (found_at-end reader.place reader.groups)
  nothing_in (t ∷ ts) e = absurd (omega arith)

  -- no token is left
  pub HasRead-end : length rest ≡ 0 → None ≡ left (read_on start (words_of text tokens))
  HasRead-end e = sym (ap (λ p. left (read_on p (words_of text rest))) is ∙ nothing_in rest e) ∙ read.same

  -- one more token
  pub HasRead-token : (token : Token) (after : List Token) → rest ≡ token ∷ after → (lexeme : Lexeme) → lexeme ≡ lexeme_of (word_of text token) → (next : Progress) → next ≡ step_at reader.place reader.groups lexeme
      → HasRead text start tokens next after
  HasRead-token token after e lexeme f next g =
      let whole : length rest ≡ suc (length after) = ap length e in
      record {
        inside = All-rest (λ t. (t.start ≤ t.end) × (t.end ≤ length text)) token after rest e read.inside;
        shorter = omega (arith, whole, read.shorter);
        same =
            ap (λ p. left (read_on p (words_of text after))) (g ∙ ap (step_at reader.place reader.groups) f)
            ∙ ap left (sym (found_at-word reader.place reader.groups (word_of text token) (words_of text after)))
            ∙ sym (ap (λ p. left (read_on p (words_of text rest))) is ∙ ap (λ ts. left (read_on (Within reader) (words_of text ts))) e)
            ∙ read.same;
      }
