-- What is printed of statements spells them.
use Rattle.std.proofs.Common.{◌≡◌, ◌≢◌, ℕ, ◌≤◌, nat_le, false, List, [], ◌∷◌, ◌++◌, map, Option, Some, None, refl, sym, ap, ◌∙◌, subst, arith, if◌then◌else◌}
use Rattle.std.specs.Prelude.{codes}
use Rattle.std.specs.List.{AllPairs}
use Rattle.std.specs.Option.{IfSome, option_map}
use Rattle.std.proofs.lemmas.Bool.{leb-true}
use Rattle.ms_text.specs.declared.token.TokenKind.TheVariants.{Program, External, Const, Show, Dot, Comma, Equal, EqualEqual, Slash, Less, Greater, LeftParen, RightParen}
use Rattle.ms_text.specs.Tokens.{begins_with}
use Rattle.ms_grammar.specs.declared.term.TextTerm.{TextTerm}
use Rattle.ms_grammar.specs.declared.statement.Form.{Form}
use Rattle.ms_grammar.specs.declared.statement.Form.TheVariants.{Program as ProgramForm, External as ExternalForm, Const as ConstForm, Show as ShowForm, ShowNone, IncludeIncmode}
use Rattle.ms_grammar.specs.declared.part.Counted.{Counted}
use Rattle.ms_grammar.specs.declared.part.ValuePart.{ValuePart}
use Rattle.ms_grammar.specs.Words.{Word, name, number, sign, separated}
use Rattle.ms_grammar.specs.Terms.{greatest_numeral}
use Rattle.ms_grammar.specs.Values.{value_words, value_part}
use Rattle.ms_grammar.specs.Statements as st
use Rattle.ms_grammar.specs.Statements.{Sentence, sentence_words, sentence_spelled, Parameters, parameters_words, parameter_names, head_words, tail_words, rule_spelled, atom_words, atom_spelled, alone, with_value}
use Rattle.ms_ast.specs.Ink.{Ink, word, ink_words, ink_text, mark, side_by_side, comma}
use Rattle.ms_ast.specs.Terms.{term_ink}
use Rattle.ms_ast.specs.Values.{value_ink}
use Rattle.ms_ast.specs.Statements.{form_ink, params_ink, statement_ink}
use Rattle.ms_ast.specs.Law.{IsName, HaveNames}
use Rattle.ms_ast.proofs.Inks.{ink_words_append}
use Rattle.ms_ast.proofs.Names.{names_split}
use Rattle.ms_ast.proofs.Somes.{map_some, kept}
use Rattle.ms_ast.proofs.Apart.{IsToken, IsSentence, dot, gap, token, Joins, Starts, AllJoin, behind_sign, behind_word_blank, sign_starts, nothing_joins, nothing_starts, side_joins}
use Rattle.ms_ast.proofs.Signs.{program_blank, external_blank, const_blank, show_blank, show_dot, include_blank, less_name, greater_dot, slash_sign, left_paren_sign, comma_between, parens_join}
use Rattle.ms_ast.proofs.NameTokens.{name_token_of}
use Rattle.ms_ast.proofs.Operations.{name_joins, number_joins}
use Rattle.ms_ast.proofs.Lines.{in_parens_words}
use Rattle.ms_ast.proofs.Parts.{separated_words}
use Rattle.ms_ast.proofs.ValueLaw.{ValueShown, value_shown}
use Rattle.ms_ast.proofs.LiteralLaw.{AtomIs, atom_is}
use Rattle.ms_ast.proofs.RuleLaw.{RuleIs, rule_is}

-- What is printed of the statement, with its dot, spells it, and its words are told apart.
pub record SentenceIs (c : Counted Form) : Type 0 where
  pub derivation : Sentence
  pub words_are : sentence_words derivation ≡ ink_words (statement_ink c.value)
  pub spells : sentence_spelled derivation ≡ Some c
  pub sentence : IsSentence (statement_ink c.value)

-- the ink before the dot
before_dot : (ink : List Ink) → Joins ink → IsSentence (ink ++ mark Dot ∷ [])
before_dot ink j = j (mark Dot ∷ []) refl dot

with_dot : (ws : List Word) (ink : List Ink) → ws ≡ ink_words ink → ws ++ sign Dot ∷ [] ≡ ink_words (ink ++ mark Dot ∷ [])
with_dot ws ink e = ap (λ vs. vs ++ sign Dot ∷ []) e ∙ sym (ink_words_append ink (mark Dot ∷ []))

rule_sentence : (c : Counted Form) → RuleIs c → SentenceIs c
rule_sentence c h = record {
  derivation = st.rule h.head h.tail;
  words_are = with_dot (head_words h.head ++ tail_words h.tail) (form_ink c.value) h.words_are;
  spells = h.spells;
  sentence = before_dot (form_ink c.value) h.joins;
}

rule_some : (o : Option (Counted Form)) → IfSome o RuleIs → IfSome o SentenceIs
rule_some None h = tt
rule_some (Some c) h = rule_sentence c h

-- the parameters of a program part
abbrev name_ink : List ℕ → List Ink
name_ink n = word (name n) ∷ []

abbrev AllNames : List (List ℕ) → Type 0
AllNames [] = Unit {0}
AllNames (n ∷ ns) = IsName n × AllNames ns

name_words : (ns : List (List ℕ)) → map ink_words (map name_ink ns) ≡ map (λ n. name n ∷ []) ns
name_words [] = refl
name_words (n ∷ ns) = ap (λ ws. (name n ∷ []) ∷ ws) (name_words ns)

names_join : (ns : List (List ℕ)) → AllNames ns → AllJoin (map name_ink ns)
names_join [] h = tt
names_join (n ∷ ns) h = (name_joins n h.0 [] nothing_starts nothing_joins, names_join ns h.1)

all_names : (ns : List (List ℕ)) → HaveNames (separated (sign Comma) (map (λ n. name n ∷ []) ns)) → AllNames ns
all_names [] h = tt
all_names (n ∷ []) h = (h.0, tt)
all_names (n ∷ m ∷ ms) h = (h.0, all_names (m ∷ ms) h.1)

-- what is printed of parameters
record ParametersAre (ns : List (List ℕ)) : Type 0 where
  derivation : Parameters
  names_are : parameter_names derivation ≡ ns
  words_are : parameters_words derivation ≡ ink_words (params_ink ns)
  joins : Joins (params_ink ns)
  starts : Starts (params_ink ns)

parameters_are : (ns : List (List ℕ)) → AllNames ns → ParametersAre ns
parameters_are [] h = record { derivation = st.no_parameters; names_are = refl; words_are = refl; joins = nothing_joins; starts = nothing_starts }
parameters_are (n ∷ ns) h =
    let inks : List (List Ink) = map name_ink (n ∷ ns) in
    let inside : List Ink = side_by_side comma inks in
    let words : separated (sign Comma) (map (λ m. name m ∷ []) (n ∷ ns)) ≡ ink_words inside = ap (separated (sign Comma)) (sym (name_words (n ∷ ns))) ∙ sym (separated_words comma Comma refl inks) in
    record {
      derivation = st.parameters (n ∷ ns);
      names_are = refl;
      words_are = ap (λ ws. sign LeftParen ∷ (ws ++ sign RightParen ∷ [])) words ∙ sym (in_parens_words inside);
      joins = parens_join inside (side_joins comma comma_between inks (names_join (n ∷ ns) h));
      starts = sign_starts (sign LeftParen) left_paren_sign (inside ++ mark RightParen ∷ []);
    }

-- the names that differ, as the derivation has them
record ProgramIs (n : List ℕ) (ns : List (List ℕ)) : Type 0 where
  derivation : Sentence
  words_are : sentence_words derivation ≡ ink_words (statement_ink (ProgramForm n ns))
  spells : sentence_spelled derivation ≡ Some (alone (ProgramForm n ns))

program_is : (n : List ℕ) (ns : List (List ℕ)) (p : ParametersAre ns) → AllPairs (λ p q. p ≢ q) ns → ProgramIs n ns
program_is n ns p differ = record {
  derivation = st.program n p.derivation (subst (AllPairs (λ p q. p ≢ q)) (sym p.names_are) differ);
  words_are = with_dot (sign Program ∷ name n ∷ parameters_words p.derivation) (form_ink (ProgramForm n ns)) (ap (λ ws. sign Program ∷ name n ∷ ws) p.words_are);
  spells = ap (λ ms. Some (alone (ProgramForm n ms))) p.names_are;
}

program_sentence : (n : List ℕ) (ns : List (List ℕ)) → IsName n → AllNames ns → AllPairs (λ p q. p ≢ q) ns → SentenceIs (alone (ProgramForm n ns))
program_sentence n ns is_name all differ =
    let p : ParametersAre ns = parameters_are ns all in
    let s : ProgramIs n ns = program_is n ns p differ in
    record {
      derivation = s.derivation;
      words_are = s.words_are;
      spells = s.spells;
      sentence = before_dot (form_ink (ProgramForm n ns)) (behind_word_blank (sign Program) program_blank (word (name n) ∷ params_ink ns) (name_joins n is_name (params_ink ns) p.starts p.joins));
    }

parameters_names : (ps : Parameters) → HaveNames (parameters_words ps) → AllNames (parameter_names ps)
parameters_names st.no_parameters h = tt
parameters_names (st.parameters ns) h = all_names ns (names_split (separated (sign Comma) (map (λ n. name n ∷ []) ns)) (sign RightParen ∷ []) h).0

external_sentence : (c : Counted TextTerm) → AtomIs c → SentenceIs (with_value ExternalForm c)
external_sentence c h = record {
  derivation = st.external h.written.derivation;
  words_are = with_dot (sign External ∷ atom_words h.written.derivation) (form_ink (ExternalForm c.value)) (ap (λ ws. sign External ∷ ws) h.written.words_are);
  spells = ap (option_map (with_value ExternalForm)) h.written.spells;
  sentence = before_dot (form_ink (ExternalForm c.value)) (behind_word_blank (sign External) external_blank (term_ink c.value) h.joins);
}

-- `=` before what doesn't begin with one
equal_token : (tail : List ℕ) → begins_with 61 tail ≡ false → IsToken (sign Equal) tail
equal_token tail e = record {
  head = 61;
  rest = [];
  text = refl;
  kind = Equal;
  first = sym (ap (λ b. if b then Some (EqualEqual, 2) else Some (Equal, 1)) e);
  inside = λ t ps. refl;
  reads = λ front line. refl;
}

const_joins : (n : List ℕ) → IsName n → (ink : List Ink) → ((more : List Ink) → begins_with 61 (ink_text (ink ++ more)) ≡ false) → Joins ink → Joins (word (name n) ∷ mark Equal ∷ ink)
const_joins n is_name ink no_equal j more f h = token (name_token_of n (61 ∷ ink_text (ink ++ more)) is_name refl) (token (equal_token (ink_text (ink ++ more)) (no_equal more)) (j more f h))

const_sentence : (n : List ℕ) → IsName n → (p : ValuePart) → ValueShown p → SentenceIs (alone (ConstForm n p.value))
const_sentence n is_name p h = record {
  derivation = st.const n h.written.derivation;
  words_are = with_dot (sign Const ∷ name n ∷ sign Equal ∷ value_words h.written.derivation) (form_ink (ConstForm n p.value)) (ap (λ ws. sign Const ∷ name n ∷ sign Equal ∷ ws) h.written.words_are);
  spells = ap (option_map (λ q. alone (ConstForm n q.value))) h.written.spells;
  sentence = before_dot (form_ink (ConstForm n p.value)) (behind_word_blank (sign Const) const_blank (word (name n) ∷ mark Equal ∷ value_ink p.value) (const_joins n is_name (value_ink p.value) h.no_equal h.joins));
}

show_sentence : (p : List ℕ) (n : ℕ) → IsName p → IfSome (sentence_spelled (st.show p n)) SentenceIs
show_sentence p n is_name = kept SentenceIs (nat_le n greatest_numeral) (alone (ShowForm p n)) (λ e low.
    let small : n ≤ greatest_numeral = leb-true n greatest_numeral low in
    record {
      derivation = st.show p n;
      words_are = refl;
      spells = e;
      sentence = before_dot (form_ink (ShowForm p n)) (behind_word_blank (sign Show) show_blank (word (name p) ∷ mark Slash ∷ word (number n) ∷ [])
          (name_joins p is_name (mark Slash ∷ word (number n) ∷ []) (sign_starts (sign Slash) slash_sign (word (number n) ∷ []))
          (behind_sign (sign Slash) slash_sign (word (number n) ∷ []) (number_joins n (omega arith) [] nothing_starts nothing_joins))));
    })

show_none_sentence : SentenceIs (alone ShowNone)
show_none_sentence = record { derivation = st.show_none; words_are = refl; spells = refl; sentence = token (show_dot []) dot }

incmode_is_name : IsName (codes "incmode")
incmode_is_name = record { all_of_it = refl; no_word = refl }

include_sentence : SentenceIs (alone IncludeIncmode)
include_sentence = record {
  derivation = st.include;
  words_are = refl;
  spells = refl;
  sentence = token (include_blank (ink_text (mark Less ∷ word (name (codes "incmode")) ∷ mark Greater ∷ mark Dot ∷ [])))
      (gap (token (less_name (codes "ncmode>.")) (token (name_token_of (codes "incmode") (codes ">.") incmode_is_name refl) (token (greater_dot []) dot))));
}

pub sentence_is : (s : Sentence) → HaveNames (sentence_words s) → IfSome (sentence_spelled s) SentenceIs
sentence_is (st.rule head body) n =
    let ns = names_split (head_words head ++ tail_words body) (sign Dot ∷ []) n in
    rule_some (rule_spelled head body) (rule_is head body ns.0)
sentence_is (st.program f ps differ) n =
    let ns = names_split (parameters_words ps) (sign Dot ∷ []) n.1 in
    program_sentence f (parameter_names ps) n.0 (parameters_names ps ns.0) differ
sentence_is (st.external a) n =
    let ns = names_split (atom_words a) (sign Dot ∷ []) n in
    map_some (with_value ExternalForm) AtomIs SentenceIs external_sentence (atom_spelled a) (atom_is a ns.0)
sentence_is (st.const f v) n =
    let ns = names_split (value_words v) (sign Dot ∷ []) n.1 in
    map_some (λ p. alone (ConstForm f p.value)) ValueShown SentenceIs (const_sentence f n.0) (value_part v) (value_shown v ns.0)
sentence_is (st.show p k) n = show_sentence p k n.0
sentence_is st.show_none n = show_none_sentence
sentence_is st.include n = include_sentence
