-- What is printed of bodies and rules spells them.
use Rattle.std.proofs.Common.{◌≡◌, Bool, true, false, List, [], ◌∷◌, ◌++◌, map, Option, Some, None, refl, sym, ap, ◌∙◌, subst, append-nil}
use Rattle.std.specs.Option.{IfSome, option_map}
use Rattle.ms_text.specs.declared.token.TokenKind.TheVariants.{Not, Comma, If}
use Rattle.ms_grammar.specs.declared.term.TextTerm.{TextTerm}
use Rattle.ms_grammar.specs.declared.statement.TextLit.{TextLit}
use Rattle.ms_grammar.specs.declared.statement.TextSet.{TextSet}
use Rattle.ms_grammar.specs.declared.statement.TextAgg.{TextAgg}
use Rattle.ms_grammar.specs.declared.statement.Head.TheVariants.{Empty, Atom as HeadAtom, Set as HeadSet}
use Rattle.ms_grammar.specs.declared.statement.BodyLit.{BodyLit}
use Rattle.ms_grammar.specs.declared.statement.BodyLit.TheVariants.{Lit, Set as BodySet, Agg as BodyAgg}
use Rattle.ms_grammar.specs.declared.statement.Form.{Form}
use Rattle.ms_grammar.specs.declared.part.Counted.{Counted}
use Rattle.ms_grammar.specs.Words.{Word, sign, separated}
use Rattle.ms_grammar.specs.Statements as st
use Rattle.ms_grammar.specs.Statements.{BodyPart, body_part_words, body_part_spelled, Body, body_words, body_spelled, more_words, separator, HeadPart, head_words, Tail, tail_words, tail_spelled, rule_spelled, atom_words, atom_spelled, choice_words, choice_spelled, aggregate_spelled, literal_spelled, alone, beside, join, row_of, with_value}
use Rattle.ms_ast.specs.Ink.{blank, ink_words, mark, comma_blank, apart}
use Rattle.ms_ast.specs.Terms.{term_ink}
use Rattle.ms_ast.specs.Statements.{set_ink, agg_ink, part_ink, body_ink, behind_head, form_ink}
use Rattle.ms_ast.specs.Law.{HaveNames}
use Rattle.ms_ast.proofs.Inks.{ink_words_append}
use Rattle.ms_ast.proofs.Names.{names_split, EachHaveNames}
use Rattle.ms_ast.proofs.Somes.{both_some, map_some}
use Rattle.ms_ast.proofs.Apart.{Joins, Starts, joins_before, behind_word_blank, blank_starts, nothing_joins, nothing_starts, side_joins}
use Rattle.ms_ast.proofs.Signs.{not_blank, if_blank, comma_blank_between}
use Rattle.ms_ast.proofs.Lines.{Spelled}
use Rattle.ms_ast.proofs.Parts.{IsPrinted, ArePrinted, more_printed, row_printed, separated_printed}
use Rattle.ms_ast.proofs.LiteralLaw.{AtomIs, atom_is, LiteralIs, literal_is, apart_joins}
use Rattle.ms_ast.proofs.SetLaw.{ChoiceIs, choice_is, AggregateIs, aggregate_is}
use Rattle.ms_ast.proofs.Makers.{rule_of}

-- parts of bodies
abbrev PartIs : Counted BodyLit → Type 0
PartIs = IsPrinted BodyPart BodyLit body_part_words body_part_spelled part_ink

literal_part : (c : Counted TextLit) → LiteralIs c → PartIs (with_value Lit c)
literal_part c h = record {
  written = record { derivation = st.literal h.written.derivation; words_are = h.written.words_are; spells = ap (option_map (with_value Lit)) h.written.spells };
  joins = h.joins;
}

set_part : (negated : Bool) (c : Counted TextSet) → ChoiceIs c → PartIs (with_value (BodySet negated) c)
set_part true c h = record {
  written = record { derivation = st.choice true h.written.derivation; words_are = ap (λ ws. sign Not ∷ ws) h.written.words_are; spells = ap (option_map (with_value (BodySet true))) h.written.spells };
  joins = behind_word_blank (sign Not) not_blank (set_ink c.value) h.joins;
}
set_part false c h = record {
  written = record { derivation = st.choice false h.written.derivation; words_are = h.written.words_are; spells = ap (option_map (with_value (BodySet false))) h.written.spells };
  joins = h.joins;
}

agg_part : (negated : Bool) (c : Counted TextAgg) → AggregateIs c → PartIs (with_value (BodyAgg negated) c)
agg_part true c h = record {
  written = record { derivation = st.aggregate true h.written.derivation; words_are = ap (λ ws. sign Not ∷ ws) h.written.words_are; spells = ap (option_map (with_value (BodyAgg true))) h.written.spells };
  joins = behind_word_blank (sign Not) not_blank (agg_ink c.value) h.joins;
}
agg_part false c h = record {
  written = record { derivation = st.aggregate false h.written.derivation; words_are = h.written.words_are; spells = ap (option_map (with_value (BodyAgg false))) h.written.spells };
  joins = h.joins;
}

part_is : (p : BodyPart) → HaveNames (body_part_words p) → IfSome (body_part_spelled p) PartIs
part_is (st.literal l) n = map_some (with_value Lit) LiteralIs PartIs literal_part (literal_spelled l) (literal_is l n)
part_is (st.choice true s) n = map_some (with_value (BodySet true)) ChoiceIs PartIs (set_part true) (choice_spelled s) (choice_is s n)
part_is (st.choice false s) n = map_some (with_value (BodySet false)) ChoiceIs PartIs (set_part false) (choice_spelled s) (choice_is s n)
part_is (st.aggregate true a) n = map_some (with_value (BodyAgg true)) AggregateIs PartIs (agg_part true) (aggregate_spelled a) (aggregate_is a n)
part_is (st.aggregate false a) n = map_some (with_value (BodyAgg false)) AggregateIs PartIs (agg_part false) (aggregate_spelled a) (aggregate_is a n)

-- bodies
record BodyIs (c : Counted (List BodyLit)) : Type 0 where
  written : Spelled Body (Counted (List BodyLit)) body_words body_spelled (ink_words (body_ink c.value)) c
  joins : Joins (body_ink c.value)
  first : BodyLit
  more : List BodyLit
  are : c.value ≡ first ∷ more

abbrev behind_commas : List BodyPart → List (Bool × BodyPart)
behind_commas parts = map (λ p. (true, p)) parts

parts_back : (parts : List BodyPart) → map (λ part. part.1) (behind_commas parts) ≡ parts
parts_back [] = refl
parts_back (p ∷ ps) = ap (λ qs. p ∷ qs) (parts_back ps)

comma_words : (p : BodyPart) (ps : List BodyPart) → body_part_words p ++ more_words (behind_commas ps) ≡ separated (sign Comma) (map body_part_words (p ∷ ps))
comma_words p [] = append-nil (body_part_words p)
comma_words p (q ∷ qs) = ap (λ ws. body_part_words p ++ sign Comma ∷ ws) (comma_words q qs)

abbrev PartsAre : Counted (List BodyLit) → Type 0
PartsAre = ArePrinted BodyPart BodyLit body_part_words body_part_spelled part_ink

abbrev cons_parts : BodyLit → List BodyLit → List BodyLit
cons_parts x xs = x ∷ xs

body_printed : (c : Counted BodyLit) (cs : Counted (List BodyLit)) → PartIs c → PartsAre cs → BodyIs (beside cons_parts c cs)
body_printed c cs h hs =
    let all : PartsAre (beside cons_parts c cs) = more_printed BodyPart BodyLit body_part_words body_part_spelled part_ink c cs h hs in
    record {
      written = record {
        derivation = record { first = h.written.derivation; more = behind_commas hs.derivations };
        words_are = comma_words h.written.derivation hs.derivations ∙ separated_printed BodyPart BodyLit body_part_words body_part_spelled part_ink comma_blank Comma refl (beside cons_parts c cs) all;
        spells = ap (λ ps. row_of body_part_spelled (h.written.derivation ∷ ps)) (parts_back hs.derivations) ∙ all.spells;
      };
      joins = side_joins comma_blank comma_blank_between (map part_ink (c.value ∷ cs.value)) all.all;
      first = c.value;
      more = cs.value;
      are = refl;
    }

names_behind : (comma : Bool) (words : List Word) → HaveNames (separator comma ∷ words) → HaveNames words
names_behind true words n = n
names_behind false words n = n

names_more : (parts : List (Bool × BodyPart)) → HaveNames (more_words parts) → EachHaveNames (map body_part_words (map (λ part. part.1) parts))
names_more [] n = tt
names_more (part ∷ parts) n =
    let ns = names_split (body_part_words part.1) (more_words parts) (names_behind part.0 (body_part_words part.1 ++ more_words parts) n) in
    (ns.0, names_more parts ns.1)

body_is : (b : Body) → HaveNames (body_words b) → IfSome (body_spelled b) BodyIs
body_is b n =
    let ns = names_split (body_part_words b.first) (more_words b.more) n in
    both_some (λ c cs. Some (beside cons_parts c cs)) PartIs PartsAre BodyIs body_printed (body_part_spelled b.first) (row_of body_part_spelled (map (λ part. part.1) b.more))
    (part_is b.first ns.0) (row_printed BodyPart BodyLit body_part_words body_part_spelled part_ink part_is (map (λ part. part.1) b.more) (names_more b.more ns.1))

-- what follows a head
record TailIs (c : Counted (List BodyLit)) : Type 0 where
  written : Spelled Tail (Counted (List BodyLit)) tail_words tail_spelled (ink_words (behind_head c.value)) c
  joins : Joins (behind_head c.value)
  starts : Starts (behind_head c.value)

no_body : TailIs (alone [])
no_body = record { written = record { derivation = st.no_tail; words_are = refl; spells = refl }; joins = nothing_joins; starts = nothing_starts }

behind_some : (body : List BodyLit) (first : BodyLit) (more : List BodyLit) → body ≡ first ∷ more → behind_head body ≡ apart If ++ body_ink body
behind_some body first more e = subst (λ b. behind_head b ≡ apart If ++ body_ink b) (sym e) refl

tail_from_body : (c : Counted (List BodyLit)) → BodyIs c → TailIs c
tail_from_body c h =
    let is : behind_head c.value ≡ apart If ++ body_ink c.value = behind_some c.value h.first h.more h.are in
    record {
      written = record { derivation = st.tail h.written.derivation; words_are = ap (λ ws. sign If ∷ ws) h.written.words_are ∙ ap ink_words (sym is); spells = h.written.spells };
      joins = subst Joins (sym is) (apart_joins If if_blank (body_ink c.value) h.joins);
      starts = subst Starts (sym is) (blank_starts (mark If ∷ blank ∷ body_ink c.value));
    }

body_some : (o : Option (Counted (List BodyLit))) → IfSome o BodyIs → IfSome o TailIs
body_some None h = tt
body_some (Some c) h = tail_from_body c h

tail_is : (t : Tail) → HaveNames (tail_words t) → IfSome (tail_spelled t) TailIs
tail_is st.no_tail n = no_body
tail_is st.empty_tail n = no_body
tail_is (st.tail b) n = body_some (body_spelled b) (body_is b n)

-- rules
pub record RuleIs (c : Counted Form) : Type 0 where
  pub head : HeadPart
  pub tail : Tail
  pub words_are : head_words head ++ tail_words tail ≡ ink_words (form_ink c.value)
  pub spells : rule_spelled head tail ≡ Some c
  pub joins : Joins (form_ink c.value)

atom_rule : (c : Counted TextTerm) (d : Counted (List BodyLit)) → AtomIs c → TailIs d → RuleIs (beside rule_of (with_value HeadAtom c) d)
atom_rule c d h t = record {
  head = st.atom_head h.written.derivation;
  tail = t.written.derivation;
  words_are = (λ i. h.written.words_are i ++ t.written.words_are i) ∙ sym (ink_words_append (term_ink c.value) (behind_head d.value));
  spells = λ i. join rule_of (option_map (with_value HeadAtom) (h.written.spells i)) (t.written.spells i);
  joins = joins_before (term_ink c.value) (behind_head d.value) h.joins t.starts t.joins;
}

set_rule : (c : Counted TextSet) (d : Counted (List BodyLit)) → ChoiceIs c → TailIs d → RuleIs (beside rule_of (with_value HeadSet c) d)
set_rule c d h t = record {
  head = st.choice_head h.written.derivation;
  tail = t.written.derivation;
  words_are = (λ i. h.written.words_are i ++ t.written.words_are i) ∙ sym (ink_words_append (set_ink c.value) (behind_head d.value));
  spells = λ i. join rule_of (option_map (with_value HeadSet) (h.written.spells i)) (t.written.spells i);
  joins = joins_before (set_ink c.value) (behind_head d.value) h.joins t.starts t.joins;
}

constraint : (d : Counted (List BodyLit)) → BodyIs d → RuleIs (beside rule_of (alone Empty) d)
constraint d h = record {
  head = st.no_head;
  tail = st.tail h.written.derivation;
  words_are = ap (λ ws. sign If ∷ ws) h.written.words_are;
  spells = ap (join rule_of (Some (alone Empty))) h.written.spells;
  joins = behind_word_blank (sign If) if_blank (body_ink d.value) h.joins;
}

empty_constraint : RuleIs (beside rule_of (alone Empty) (alone []))
empty_constraint = record { head = st.no_head; tail = st.empty_tail; words_are = refl; spells = refl; joins = behind_word_blank (sign If) if_blank [] nothing_joins }

atom_some : (a : Option (Counted TextTerm)) (b : Option (Counted (List BodyLit))) → IfSome a AtomIs → IfSome b TailIs → IfSome (join rule_of (option_map (with_value HeadAtom) a) b) RuleIs
atom_some None None h k = tt
atom_some None (Some d) h k = tt
atom_some (Some c) None h k = tt
atom_some (Some c) (Some d) h k = atom_rule c d h k

set_some : (a : Option (Counted TextSet)) (b : Option (Counted (List BodyLit))) → IfSome a ChoiceIs → IfSome b TailIs → IfSome (join rule_of (option_map (with_value HeadSet) a) b) RuleIs
set_some None None h k = tt
set_some None (Some d) h k = tt
set_some (Some c) None h k = tt
set_some (Some c) (Some d) h k = set_rule c d h k

body_constraint : (o : Option (Counted (List BodyLit))) → IfSome o BodyIs → IfSome (join rule_of (Some (alone Empty)) o) RuleIs
body_constraint None h = tt
body_constraint (Some d) h = constraint d h

pub rule_is : (head : HeadPart) (t : Tail) → HaveNames (head_words head ++ tail_words t) → IfSome (rule_spelled head t) RuleIs
rule_is st.no_head st.no_tail n = tt
rule_is st.no_head st.empty_tail n = empty_constraint
rule_is st.no_head (st.tail b) n = body_constraint (body_spelled b) (body_is b n)
rule_is (st.atom_head a) t n =
    let ns = names_split (atom_words a) (tail_words t) n in
    atom_some (atom_spelled a) (tail_spelled t) (atom_is a ns.0) (tail_is t ns.1)
rule_is (st.choice_head s) t n =
    let ns = names_split (choice_words s) (tail_words t) n in
    set_some (choice_spelled s) (tail_spelled t) (choice_is s ns.0) (tail_is t ns.1)
