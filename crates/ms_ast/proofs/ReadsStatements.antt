-- What is spelled is what the function of the words gives: bodies, rules and statements.
use Rattle.std.proofs.Common.{◌≡◌, ℕ, nat_le, Bool, true, false, List, [], ◌∷◌, ◌++◌, map, Option, Some, None, refl, sym, ap, ◌∙◌, subst, append_assoc}
use Rattle.std.specs.Option.{IfSome, option_map}
use Rattle.ms_text.specs.declared.token.TokenKind.TheVariants.{External, Const, Dot, Comma, Semicolon, If, RightParen, Equal}
use Rattle.ms_grammar.specs.declared.term.TextTerm.{TextTerm}
use Rattle.ms_grammar.specs.declared.statement.TextSet.{TextSet}
use Rattle.ms_grammar.specs.declared.statement.Head.TheVariants.{Empty, Atom as HeadAtom, Set as HeadSet}
use Rattle.ms_grammar.specs.declared.statement.BodyLit.{BodyLit}
use Rattle.ms_grammar.specs.declared.statement.Form.{Form}
use Rattle.ms_grammar.specs.declared.statement.Form.TheVariants.{Program as ProgramForm, External as ExternalForm, Const as ConstForm, Show as ShowForm}
use Rattle.ms_grammar.specs.declared.part.Counted.{Counted}
use Rattle.ms_grammar.specs.declared.part.ValuePart.{ValuePart}
use Rattle.ms_grammar.specs.Words.{Word, name, number, quoted, sign, separated}
use Rattle.ms_grammar.specs.Reading.{EndsPart}
use Rattle.ms_grammar.specs.Terms.{greatest_numeral}
use Rattle.ms_grammar.specs.Values.{Spelling, value_words, value_part}
use Rattle.ms_grammar.specs.Statements as st
use Rattle.ms_grammar.specs.Statements.{BodyPart, body_part_words, body_part_spelled, Body, body_words, body_spelled, more_words, separator, HeadPart, head_words, Tail, tail_words, tail_spelled, rule_spelled, Parameters, parameters_words, parameter_names, Sentence, sentence_words, sentence_spelled, atom_words, atom_spelled, choice_words, choice_spelled, alone, beside, join, row_of, with_value}
use Rattle.ms_read_value.proofs.Fronts.{is_read}
use Rattle.ms_ast.proofs.Somes.{map_some, kept, weaker}
use Rattle.ms_ast.proofs.WordReader.{mapped, or_else, read_atom, read_some, read_any, is_separator, read_part, read_choice, read_tail, rule_with, rule_from, read_rule, names_of, value_of, read_directive, rule_or, read_statement}
use Rattle.ms_ast.proofs.ReadsParts.{found_is, part_ends_term, AtomRuns, atom_runs, atom_read, AllSeparate, more_words_of, some_reads, any_from_some}
use Rattle.ms_ast.proofs.ReadsGroups.{part_reads, choice_reads, atom_is_no_choice}
use Rattle.ms_ast.proofs.Makers.{rule_of}

abbrev dot : List Word
dot = sign Dot ∷ []

-- bodies
separator_ends : (w : Word) (ws : List Word) → is_separator w ≡ true → EndsPart (w ∷ ws)
separator_ends (sign Comma) ws e = refl
separator_ends (sign Semicolon) ws e = refl
separator_ends (sign kind) ws e = absurd (let false' : ⊥ = cc in false')
separator_ends (name f) ws e = absurd (let false' : ⊥ = cc in false')
separator_ends (number n) ws e = absurd (let false' : ⊥ = cc in false')
separator_ends (quoted s) ws e = absurd (let false' : ⊥ = cc in false')

abbrev with_words : List (Bool × BodyPart) → List (Word × BodyPart)
with_words parts = map (λ p. (separator p.0, p.1)) parts

separates : (comma : Bool) → is_separator (separator comma) ≡ true
separates true = refl
separates false = refl

all_separate : (parts : List (Bool × BodyPart)) → AllSeparate is_separator (with_words parts)
all_separate [] = tt
all_separate (p ∷ ps) = (separates p.0, all_separate ps)

parts_back : (parts : List (Bool × BodyPart)) → map (λ m. m.1) (with_words parts) ≡ map (λ part. part.1) parts
parts_back [] = refl
parts_back (p ∷ ps) = ap (λ qs. p.1 ∷ qs) (parts_back ps)

abbrev more_of : List (Word × BodyPart) → List Word
more_of more = more_words_of body_part_words body_part_spelled read_part is_separator EndsPart more

more_is : (parts : List (Bool × BodyPart)) → more_of (with_words parts) ≡ more_words parts
more_is [] = refl
more_is (p ∷ ps) = ap (λ ws. separator p.0 ∷ (body_part_words p.1 ++ ws)) (more_is ps)

body_reads : (b : Body) → IfSome (body_spelled b) (λ c. read_some read_part is_separator (body_words b ++ dot) ≡ Some (c, dot))
body_reads b =
    subst (λ ws. IfSome (body_spelled b) (λ c. read_some read_part is_separator ((body_part_words b.first ++ ws) ++ dot) ≡ Some (c, dot))) (more_is b.more)
    (subst (λ ps. IfSome (row_of body_part_spelled (b.first ∷ ps)) (λ c. read_some read_part is_separator ((body_part_words b.first ++ more_of (with_words b.more)) ++ dot) ≡ Some (c, dot))) (parts_back b.more)
    (some_reads body_part_words body_part_spelled read_part is_separator EndsPart part_reads separator_ends b.first (with_words b.more) (all_separate b.more) dot refl refl))

-- what follows a head
tail_reads : (t : Tail) → IfSome (tail_spelled t) (λ c. read_tail (tail_words t ++ dot) ≡ Some (c, dot))
tail_reads st.no_tail = refl
tail_reads st.empty_tail = refl
tail_reads (st.tail b) =
    weaker (body_spelled b) (λ c. read_some read_part is_separator (body_words b ++ dot) ≡ Some (c, dot)) (λ c. read_any read_part is_separator (body_words b ++ dot) ≡ Some (c, dot))
    (λ c h. any_from_some (read_some read_part is_separator (body_words b ++ dot)) (Some (alone [], body_words b ++ dot)) c dot h) (body_reads b)

tail_ends : (t : Tail) → EndsPart (tail_words t ++ dot)
tail_ends st.no_tail = refl
tail_ends st.empty_tail = refl
tail_ends (st.tail b) = refl

-- rules
abbrev RuleRead : List Word → Counted Form → Type 0
RuleRead ws c = read_rule ws ≡ Some c

atom_rule : (a : Option (Counted TextTerm)) (b : Option (Counted (List BodyLit))) (ws tail : List Word) → EndsPart (tail ++ dot) → IfSome a (AtomRuns ws (tail ++ dot)) → IfSome b (λ c. read_tail (tail ++ dot) ≡ Some (c, dot))
    → IfSome (join rule_of (option_map (with_value HeadAtom) a) b) (RuleRead ((ws ++ tail) ++ dot))
atom_rule None None ws tail e h k = tt
atom_rule None (Some d) ws tail e h k = tt
atom_rule (Some c) None ws tail e h k = tt
atom_rule (Some c) (Some d) ws tail e h k =
    ap read_rule (append_assoc ws tail dot)
    ∙ ap (λ o. rule_from (or_else (mapped (with_value HeadSet) o) (or_else (mapped (with_value HeadAtom) (read_atom (ws ++ (tail ++ dot)))) (Some (alone Empty, ws ++ (tail ++ dot)))))) (atom_is_no_choice ws (tail ++ dot) c h e)
    ∙ ap (λ o. rule_from (or_else (mapped (with_value HeadAtom) o) (Some (alone Empty, ws ++ (tail ++ dot))))) (atom_read ws (tail ++ dot) c h)
    ∙ ap (rule_with (with_value HeadAtom c)) k

set_rule : (a : Option (Counted TextSet)) (b : Option (Counted (List BodyLit))) (ws tail : List Word) → IfSome a (λ c. read_choice (ws ++ (tail ++ dot)) ≡ Some (c, tail ++ dot)) → IfSome b (λ c. read_tail (tail ++ dot) ≡ Some (c, dot))
    → IfSome (join rule_of (option_map (with_value HeadSet) a) b) (RuleRead ((ws ++ tail) ++ dot))
set_rule None None ws tail h k = tt
set_rule None (Some d) ws tail h k = tt
set_rule (Some c) None ws tail h k = tt
set_rule (Some c) (Some d) ws tail h k =
    ap read_rule (append_assoc ws tail dot)
    ∙ ap (λ o. rule_from (or_else (mapped (with_value HeadSet) o) (or_else (mapped (with_value HeadAtom) (read_atom (ws ++ (tail ++ dot)))) (Some (alone Empty, ws ++ (tail ++ dot)))))) h
    ∙ ap (rule_with (with_value HeadSet c)) k

constraint_rule : (o : Option (Counted (List BodyLit))) (ws : List Word) → IfSome o (λ c. read_tail (sign If ∷ ws) ≡ Some (c, dot)) → IfSome (join rule_of (Some (alone Empty)) o) (RuleRead (sign If ∷ ws))
constraint_rule None ws h = tt
constraint_rule (Some c) ws h = ap (rule_with (alone Empty)) h

rule_reads : (head : HeadPart) (t : Tail) → IfSome (rule_spelled head t) (RuleRead ((head_words head ++ tail_words t) ++ dot))
rule_reads st.no_head st.no_tail = tt
rule_reads st.no_head st.empty_tail = refl
rule_reads st.no_head (st.tail b) = constraint_rule (body_spelled b) (body_words b ++ dot) (tail_reads (st.tail b))
rule_reads (st.atom_head a) t = atom_rule (atom_spelled a) (tail_spelled t) (atom_words a) (tail_words t) (tail_ends t) (atom_runs a (tail_words t ++ dot) (part_ends_term (tail_words t ++ dot) (tail_ends t))) (tail_reads t)
rule_reads (st.choice_head s) t = set_rule (choice_spelled s) (tail_spelled t) (choice_words s) (tail_words t) (choice_reads s (tail_words t ++ dot) (tail_ends t)) (tail_reads t)

-- statements
abbrev StatementRead : List Word → Counted Form → Type 0
StatementRead ws c = read_statement ws ≡ Some c

from_rule : (o : Option (Counted Form)) (ws : List Word) → IfSome o (RuleRead ws) → IfSome o (StatementRead ws)
from_rule None ws h = tt
from_rule (Some c) ws h = ap (λ r. rule_or r (read_directive ws)) h

names_within : (ns : List (List ℕ)) → names_of ((separated (sign Comma) (map (λ n. name n ∷ []) ns) ++ sign RightParen ∷ []) ++ dot) ≡ ns
names_within [] = refl
names_within (n ∷ []) = refl
names_within (n ∷ m ∷ ms) = ap (λ ks. n ∷ ks) (names_within (m ∷ ms))

names_are : (ps : Parameters) → names_of (parameters_words ps ++ dot) ≡ parameter_names ps
names_are st.no_parameters = refl
names_are (st.parameters ns) = names_within ns

external_read : (ws : List Word) (c : Counted TextTerm) → AtomRuns ws dot c → StatementRead (sign External ∷ (ws ++ dot)) (with_value ExternalForm c)
external_read ws c h = ap value_of (atom_read ws dot c h)

const_read : (n : List ℕ) (v : Spelling) (p : ValuePart) → value_part v ≡ Some p → StatementRead (sign Const ∷ name n ∷ sign Equal ∷ (value_words v ++ dot)) (alone (ConstForm n p.value))
const_read n v p e = ap (option_map (λ f. alone (ConstForm n f.0.value))) ((is_read (value_words v ++ dot)).complete v dot p refl tt e)

pub sentence_reads : (s : Sentence) → IfSome (sentence_spelled s) (StatementRead (sentence_words s))
sentence_reads (st.rule head body) = from_rule (rule_spelled head body) ((head_words head ++ tail_words body) ++ dot) (rule_reads head body)
sentence_reads (st.program n ps differ) = ap (λ ns. Some (alone (ProgramForm n ns))) (names_are ps)
sentence_reads (st.external a) = map_some (with_value ExternalForm) (AtomRuns (atom_words a) dot) (StatementRead (sign External ∷ (atom_words a ++ dot))) (λ c h. external_read (atom_words a) c h) (atom_spelled a) (atom_runs a dot refl)
sentence_reads (st.const n v) = map_some (λ p. alone (ConstForm n p.value)) (λ p. value_part v ≡ Some p) (StatementRead (sign Const ∷ name n ∷ sign Equal ∷ (value_words v ++ dot))) (λ p e. const_read n v p e) (value_part v) (found_is (value_part v) (λ p. value_part v ≡ Some p) (λ p e. e))
sentence_reads (st.show p n) = kept (StatementRead (sentence_words (st.show p n))) (nat_le n greatest_numeral) (alone (ShowForm p n)) (λ e low. refl)
sentence_reads st.show_none = refl
sentence_reads st.include = refl

-- Two sentences with the same words spell the same.
pub spelled_once : (s t : Sentence) (c d : Counted Form) → sentence_words s ≡ sentence_words t → sentence_spelled s ≡ Some c → sentence_spelled t ≡ Some d → c ≡ d
spelled_once s t c d same e f =
    let first : read_statement (sentence_words s) ≡ Some c = subst (λ o. IfSome o (StatementRead (sentence_words s))) e (sentence_reads s) in
    let second : read_statement (sentence_words t) ≡ Some d = subst (λ o. IfSome o (StatementRead (sentence_words t))) f (sentence_reads t) in
    let both : Some c ≡ Some d = sym first ∙ ap read_statement same ∙ second in
    cc
