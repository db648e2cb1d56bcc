-- A printed statement is read back.
use Rattle.std.proofs.Common.{ℕ, List, [], ◌∷◌, refl, sym, ap, ◌∙◌, subst}
use Rattle.std.specs.Option.{IfSome}
use Rattle.ms_grammar.specs.declared.statement.Form.{Form}
use Rattle.ms_grammar.specs.declared.part.Counted.{Counted}
use Rattle.ms_grammar.specs.Statements.{HasFewCopies, sentence_words, pieces_of, AreStatements, Reads}
use Rattle.ms_ast.specs.Statements.{statement_ink, statement_text}
use Rattle.ms_ast.specs.Law.{HaveNames, IsInGrammar, IsReadAs}
use Rattle.ms_ast.proofs.Bytes.{IsRead, read_sentence}
use Rattle.ms_ast.proofs.SentenceLaw.{SentenceIs, sentence_is}
use Rattle.ms_ast.proofs.ReadsStatements.{spelled_once}

counted_read : (c : Counted Form) → HasFewCopies c → SentenceIs c → IsReadAs (statement_text c.value) c.value
counted_read c few s =
    let r : IsRead [] (statement_ink c.value) 1 = read_sentence s.sentence [] 1 in
    record {
      tokens = r.tokens;
      has_tokens = r.are;
      one_piece = r.piece;
      begins = r.begins;
      spells = record {
        sentence = s.derivation;
        words_are = s.words_are ∙ sym r.words;
        counts = c;
        spelled = s.spells;
        value_is = refl;
        few = few;
      };
      only = λ other o. sym o.value_is ∙ ap (λ d. d.value) (spelled_once o.sentence s.derivation o.counts c (o.words_are ∙ r.words ∙ sym s.words_are) o.spelled s.spells);
    }

pub reads_back : (form : Form) → IsInGrammar form → IsReadAs (statement_text form) form
reads_back form h =
    let d = h.spells in
    let names : HaveNames (sentence_words d.sentence) = subst HaveNames (sym d.words_are) h.names in
    let s : SentenceIs d.counts = subst (λ o. IfSome o SentenceIs) d.spelled (sentence_is d.sentence names) in
    subst (λ f. IsReadAs (statement_text f) f) d.value_is (counted_read d.counts d.few s)

one_statement : (text : List ℕ) (form : Form) (read : IsReadAs text form) → AreStatements text (pieces_of read.tokens) (record { line = 1; form = form } ∷ [])
unfolding AreStatements
one_statement text form read = subst (λ pieces. AreStatements text pieces (record { line = 1; form = form } ∷ [])) (sym read.one_piece) (record { spells = read.spells; line = sym read.begins }, tt)

-- The text of a statement by itself reads as this statement alone.
pub reads_alone : (form : Form) → IsInGrammar form → Reads (statement_text form) (record { line = 1; form = form } ∷ [])
reads_alone form h =
    let read : IsReadAs (statement_text form) form = reads_back form h in
    (read.tokens, read.has_tokens, one_statement (statement_text form) form read)
