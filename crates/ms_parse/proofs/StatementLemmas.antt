-- A piece is a statement just where what stands before its dot is one.
use Rattle.std.proofs.Common.{◌≡◌, ℕ, suc, ◌*◌, nat_le, cond, Bool, true, false, List, [], ◌∷◌, ◌++◌, Option, Some, None, IfSome, refl, sym, ap, ◌∙◌}
use Rattle.std.proofs.lemmas.Bool.{leb-true, le-leb}
use Rattle.std.proofs.lemmas.List.{map-append, same_from_push}
use Rattle.ms_text.specs.declared.token.Token.{Token}
use Rattle.ms_text.specs.declared.token.TokenKind.TheVariants.{Dot}
use Rattle.ms_grammar.specs.declared.statement.Form.{Form}
use Rattle.ms_grammar.specs.declared.statement.Statement.{Statement}
use Rattle.ms_grammar.specs.declared.part.Counted.{Counted}
use Rattle.ms_grammar.specs.Words.{sign, word_of, words_of}
use Rattle.ms_base.specs.Limits.{most_choices}
use Rattle.ms_grammar.specs.Statements.{Sentence, rule, program, external, const, show, show_none, include, sentence_words, sentence_spelled, IsStatement, first_line, HasFewCopies}
use Rattle.ms_parse.specs.Content.{IsSpelled, IsContent, content_words, statement_from}
use Rattle.ms_words.proofs.SignLemmas.{sign_from_kind, kind_from_sign}
use Rattle.ms_parse.proofs.Tails.{nonempty}

sentence_ends : (s : Sentence) → sentence_words s ≡ content_words s ++ sign Dot ∷ []
sentence_ends (rule h t) = refl
sentence_ends (program n ps differ) = refl
sentence_ends (external a) = refl
sentence_ends (const n v) = refl
sentence_ends (show p n) = refl
sentence_ends show_none = refl
sentence_ends include = refl

-- There is no such statement.
abbrev pub IsNone : List ℕ → List Token → Type 0
IsNone text piece = (s : Statement) → IsStatement text piece s → None ≡ Some s

pub no_tokens : (text : List ℕ) (piece : List Token) → piece ≡ [] → IsNone text piece
no_tokens text piece e s h =
    let words : content_words h.spells.sentence ++ sign Dot ∷ [] ≡ [] = sym (sentence_ends h.spells.sentence) ∙ h.spells.words_are ∙ ap (words_of text) e in
    absurd (nonempty _ (sign Dot) [] words)

module _ (text : List ℕ) (piece content : List Token) (last : Token) (joined : piece ≡ content ++ last ∷ []) where
  piece_words : words_of text piece ≡ words_of text content ++ word_of text last ∷ []
  piece_words = ap (words_of text) joined ∙ map-append (word_of text) content (last ∷ [])

  -- what stands before the last token, and what it is
  content_parts : (s : Sentence) → sentence_words s ≡ words_of text piece → (content_words s ≡ words_of text content) × (sign Dot ≡ word_of text last)
  content_parts s e = same_from_push (content_words s) (words_of text content) (sign Dot) (word_of text last) (sym (sentence_ends s) ∙ e ∙ piece_words)

  pub no_dot : (last.kind ≡ Dot → ⊥) → IsNone text piece
  no_dot other s h = absurd (other (kind_from_sign text last Dot (sym (content_parts h.spells.sentence h.spells.words_are).1)))

  module _ (dot : last.kind ≡ Dot) (found : Option (Counted Form)) (h : IsContent (words_of text content) found) (line : ℕ) (line_is : line ≡ first_line piece) where
    spelled_by_test : (c : Counted Form) (b : Bool) → nat_le (c.choices * suc c.elements) most_choices ≡ b → IsSpelled Sentence (Counted Form) content_words sentence_spelled (words_of text content) c → IfSome (cond b (Some (record { line = line; form = c.value })) None) (IsStatement text piece)
    spelled_by_test c false e s = tt
    spelled_by_test c true e s = record {
      spells = record {
        sentence = s.derivation;
        words_are = sentence_ends s.derivation ∙ ap (λ ws. ws ++ sign Dot ∷ []) s.words_are ∙ ap (λ w. words_of text content ++ w ∷ []) (sym (sign_from_kind text last Dot (λ t. refl) dot)) ∙ sym piece_words;
        counts = c;
        spelled = s.spells;
        value_is = refl;
        few = leb-true _ _ e;
      };
      line = line_is;
    }

    spelled_from : (o : Option (Counted Form)) → IfSome o (IsSpelled Sentence (Counted Form) content_words sentence_spelled (words_of text content)) → IfSome (statement_from o line) (IsStatement text piece)
    spelled_from None s = tt
    spelled_from (Some c) s = spelled_by_test c _ refl s

    pub statement_spelled : IfSome (statement_from found line) (IsStatement text piece)
    statement_spelled = spelled_from found h.sound

    few_found : (c : Counted Form) (s : Statement) → HasFewCopies c → c.value ≡ s.form → s.line ≡ first_line piece → statement_from (Some c) line ≡ Some s
    few_found c s few value at = rw (le-leb _ _ few, value, line_is, ← at) refl

    pub statement_only : (s : Statement) → IsStatement text piece s → statement_from found line ≡ Some s
    statement_only s is =
        let p = is.spells in
        let same : found ≡ Some p.counts = h.complete p.sentence p.counts (content_parts p.sentence p.words_are).0 p.spelled in
        rw same (few_found p.counts s p.few p.value_is is.line)
