-- What is printed of guards, sets and aggregates spells them.
use Rattle.std.proofs.Common.{◌≡◌, ℕ, List, [], ◌∷◌, ◌++◌, map, Option, Some, None, refl, sym, ap, ◌∙◌, append_assoc}
use Rattle.std.specs.Option.{IfSome, option_map, option_and_then}
use Rattle.ms_text.specs.declared.token.TokenKind.TheVariants.{Comma, Semicolon, LeftBrace, RightBrace}
use Rattle.ms_grammar.specs.declared.term.TextTerm.{TextTerm}
use Rattle.ms_grammar.specs.declared.statement.Cmp.{Cmp}
use Rattle.ms_grammar.specs.declared.statement.Cmp.TheVariants.{Le}
use Rattle.ms_grammar.specs.declared.statement.AggFn.{AggFn}
use Rattle.ms_grammar.specs.declared.statement.AggFn.TheVariants.{Count, Sum}
use Rattle.ms_grammar.specs.declared.statement.TextLit.{TextLit}
use Rattle.ms_grammar.specs.declared.statement.TextGuard.{TextGuard}
use Rattle.ms_grammar.specs.declared.statement.SetElement.{SetElement}
use Rattle.ms_grammar.specs.declared.statement.TextSet.{TextSet}
use Rattle.ms_grammar.specs.declared.statement.AggElement.{AggElement}
use Rattle.ms_grammar.specs.declared.statement.TextAgg.{TextAgg}
use Rattle.ms_grammar.specs.declared.part.Counted.{Counted}
use Rattle.ms_grammar.specs.Words.{Word, sign, separated}
use Rattle.ms_grammar.specs.Terms as g
use Rattle.ms_grammar.specs.Statements as st
use Rattle.ms_grammar.specs.Statements.{Guard, left_words, right_words, guard_spelled, SetPart, set_part_words, set_part_spelled, TuplePart, tuple_part_words, tuple_part_spelled, Choice, choice_words, choice_spelled, set_from, Aggregate, aggregate_words, aggregate_spelled, aggregate_from, function_kind, atom_words, atom_spelled, conditions_words, conditions_spelled, term_spelled, cmp_of, alone, as_element, beside, join, row_of, with_value}
use Rattle.ms_ast.specs.Ink.{Ink, blank, ink_words, ink_text, mark, side_by_side, comma, semicolon_blank, apart}
use Rattle.ms_ast.specs.Terms.{term_ink}
use Rattle.ms_ast.specs.Statements.{cmp_kind, conditions_ink, set_element_ink, agg_element_ink, left_ink, right_ink, in_braces, set_ink, agg_ink}
use Rattle.ms_ast.specs.Law.{HaveNames}
use Rattle.ms_ast.proofs.Inks.{ink_words_append}
use Rattle.ms_ast.proofs.Names.{names_split, names_each}
use Rattle.ms_ast.proofs.Somes.{map_some}
use Rattle.ms_ast.proofs.Apart.{IsToken, Joins, Starts, token, joins_before, behind_sign, sign_starts, blank_starts, nothing_joins, nothing_starts, side_joins}
use Rattle.ms_ast.proofs.Signs.{left_brace_sign, right_brace_sign, cmp_blank, count_brace, sum_brace, comma_between, semicolon_blank_between}
use Rattle.ms_ast.proofs.Operations.{joins_between}
use Rattle.ms_ast.proofs.Parts.{IsPrinted, ArePrinted, more_printed, row_printed, separated_printed}
use Rattle.ms_ast.proofs.LiteralLaw.{TermIs, term_is, AtomIs, atom_is, ConditionsAre, conditions_are, cmp_back, apart_joins}
use Rattle.ms_ast.proofs.Makers.{set_element, agg_element, guard_with, set_pair, agg_pair}

-- guards, on both sides
pub record GuardIs (c : Counted (Option TextGuard)) : Type 0 where
  pub derivation : Option Guard
  pub left_are : left_words derivation ≡ ink_words (left_ink c.value)
  pub right_are : right_words derivation ≡ ink_words (right_ink c.value)
  pub spells : guard_spelled derivation ≡ Some c
  pub left_joins : Joins (left_ink c.value)
  pub right_joins : Joins (right_ink c.value)
  pub right_starts : Starts (right_ink c.value)

no_guard : GuardIs (alone None)
no_guard = record { derivation = None; left_are = refl; right_are = refl; spells = refl; left_joins = nothing_joins; right_joins = nothing_joins; right_starts = nothing_starts }

signed_is : (cmp : Cmp) (c : Counted TextTerm) → TermIs c → GuardIs (with_value (guard_with cmp) c)
signed_is cmp c h = record {
  derivation = Some (st.signed h.written.derivation (cmp_kind cmp));
  left_are = ap (λ ws. ws ++ sign (cmp_kind cmp) ∷ []) h.written.words_are ∙ sym (ink_words_append (term_ink c.value) (apart (cmp_kind cmp)));
  right_are = ap (λ ws. sign (cmp_kind cmp) ∷ ws) h.written.words_are;
  spells = λ i. option_and_then (λ cmp. option_map (with_value (guard_with cmp)) (h.written.spells i)) (cmp_back cmp i);
  left_joins = joins_before (term_ink c.value) (apart (cmp_kind cmp)) h.joins (blank_starts (mark (cmp_kind cmp) ∷ blank ∷ [])) (apart_joins (cmp_kind cmp) (cmp_blank cmp) [] nothing_joins);
  right_joins = apart_joins (cmp_kind cmp) (cmp_blank cmp) (term_ink c.value) h.joins;
  right_starts = blank_starts (mark (cmp_kind cmp) ∷ blank ∷ term_ink c.value);
}

abbrev GuardHasNames : Option Guard → Type 0
GuardHasNames None = Unit {0}
GuardHasNames (Some (st.bare t)) = HaveNames (g.term_words t)
GuardHasNames (Some (st.signed t kind)) = HaveNames (g.term_words t)

left_names : (o : Option Guard) → HaveNames (left_words o) → GuardHasNames o
left_names None n = tt
left_names (Some (st.bare t)) n = n
left_names (Some (st.signed t kind)) n = (names_split (g.term_words t) (sign kind ∷ []) n).0

right_names : (o : Option Guard) → HaveNames (right_words o) → GuardHasNames o
right_names None n = tt
right_names (Some (st.bare t)) n = n
right_names (Some (st.signed t kind)) n = n

signed_some : (o : Option Cmp) (a : Option (Counted TextTerm)) → IfSome a TermIs → IfSome (option_and_then (λ cmp. option_map (with_value (guard_with cmp)) a) o) GuardIs
signed_some None a h = tt
signed_some (Some cmp) a h = map_some (with_value (guard_with cmp)) TermIs GuardIs (signed_is cmp) a h

guard_is : (o : Option Guard) → GuardHasNames o → IfSome (guard_spelled o) GuardIs
guard_is None n = no_guard
guard_is (Some (st.bare t)) n = map_some (with_value (guard_with Le)) TermIs GuardIs (signed_is Le) (term_spelled t) (term_is t n)
guard_is (Some (st.signed t kind)) n = signed_some (cmp_of kind) (term_spelled t) (term_is t n)

-- elements of sets
abbrev pub SetPartIs : Counted SetElement → Type 0
SetPartIs = IsPrinted SetPart SetElement set_part_words set_part_spelled set_element_ink

set_part_printed : (c : Counted TextTerm) (d : Counted (List TextLit)) → AtomIs c → ConditionsAre d → SetPartIs (as_element (beside set_element c d))
set_part_printed c d h k = record {
  written = record {
    derivation = record { atom = h.written.derivation; conditions = k.written.derivation };
    words_are = (λ i. h.written.words_are i ++ k.written.words_are i) ∙ sym (ink_words_append (term_ink c.value) (conditions_ink d.value));
    spells = λ i. option_map as_element (join set_element (h.written.spells i) (k.written.spells i));
  };
  joins = joins_before (term_ink c.value) (conditions_ink d.value) h.joins k.starts k.joins;
}

set_part_some : (a : Option (Counted TextTerm)) (b : Option (Counted (List TextLit))) → IfSome a AtomIs → IfSome b ConditionsAre → IfSome (option_map as_element (join set_element a b)) SetPartIs
set_part_some None None h k = tt
set_part_some None (Some d) h k = tt
set_part_some (Some c) None h k = tt
set_part_some (Some c) (Some d) h k = set_part_printed c d h k

set_part_is : (e : SetPart) → HaveNames (set_part_words e) → IfSome (set_part_spelled e) SetPartIs
set_part_is e n =
    let ns = names_split (atom_words e.atom) (conditions_words e.conditions) n in
    set_part_some (atom_spelled e.atom) (conditions_spelled e.conditions) (atom_is e.atom ns.0) (conditions_are e.conditions ns.1)

-- elements of aggregates
abbrev pub TuplePartIs : Counted AggElement → Type 0
TuplePartIs = IsPrinted TuplePart AggElement tuple_part_words tuple_part_spelled agg_element_ink

abbrev TermsAre : Counted (List TextTerm) → Type 0
TermsAre = ArePrinted g.Term TextTerm g.term_words term_spelled term_ink

abbrev cons_terms : TextTerm → List TextTerm → List TextTerm
cons_terms x xs = x ∷ xs

tuple_part_printed : (c : Counted TextTerm) (cs : Counted (List TextTerm)) (d : Counted (List TextLit)) → TermIs c → TermsAre cs → ConditionsAre d → TuplePartIs (as_element (beside agg_element (beside cons_terms c cs) d))
tuple_part_printed c cs d h hs k =
    let all : TermsAre (beside cons_terms c cs) = more_printed g.Term TextTerm g.term_words term_spelled term_ink c cs h hs in
    let inks : List (List Ink) = map term_ink (c.value ∷ cs.value) in
    let words : separated (sign Comma) (map g.term_words all.derivations) ≡ ink_words (side_by_side comma inks) = separated_printed g.Term TextTerm g.term_words term_spelled term_ink comma Comma refl (beside cons_terms c cs) all in
    record {
      written = record {
        derivation = record { first = h.written.derivation; more = hs.derivations; conditions = k.written.derivation };
        words_are = (λ i. words i ++ k.written.words_are i) ∙ sym (ink_words_append (side_by_side comma inks) (conditions_ink d.value));
        spells = λ i. option_map as_element (join agg_element (all.spells i) (k.written.spells i));
      };
      joins = joins_before (side_by_side comma inks) (conditions_ink d.value) (side_joins comma comma_between inks all.all) k.starts k.joins;
    }

tuple_part_some : (a : Option (Counted TextTerm)) (ts : Option (Counted (List TextTerm))) (b : Option (Counted (List TextLit))) → IfSome a TermIs → IfSome ts TermsAre → IfSome b ConditionsAre → IfSome (option_map as_element (join agg_element (join cons_terms a ts) b)) TuplePartIs
tuple_part_some None None None h hs k = tt
tuple_part_some None None (Some d) h hs k = tt
tuple_part_some None (Some cs) None h hs k = tt
tuple_part_some None (Some cs) (Some d) h hs k = tt
tuple_part_some (Some c) None None h hs k = tt
tuple_part_some (Some c) None (Some d) h hs k = tt
tuple_part_some (Some c) (Some cs) None h hs k = tt
tuple_part_some (Some c) (Some cs) (Some d) h hs k = tuple_part_printed c cs d h hs k

tuple_part_is : (e : TuplePart) → HaveNames (tuple_part_words e) → IfSome (tuple_part_spelled e) TuplePartIs
tuple_part_is e n =
    let ns = names_split (separated (sign Comma) (map g.term_words (e.first ∷ e.more))) (conditions_words e.conditions) n in
    let ms = names_each Comma (map g.term_words (e.first ∷ e.more)) ns.0 in
    tuple_part_some (term_spelled e.first) (row_of term_spelled e.more) (conditions_spelled e.conditions)
    (term_is e.first ms.0) (row_printed g.Term TextTerm g.term_words term_spelled term_ink term_is e.more ms.1) (conditions_are e.conditions ns.1)

-- what stands in braces, between its guards
braces_words : (left before inside right : List Word) (closing : Word) → (left ++ (before ++ inside)) ++ closing ∷ right ≡ left ++ (before ++ ((inside ++ closing ∷ []) ++ right))
braces_words left before inside right closing =
    append_assoc left (before ++ inside) (closing ∷ right)
    ∙ ap (λ ws. left ++ ws) (append_assoc before inside (closing ∷ right) ∙ ap (λ ws. before ++ ws) (sym (append_assoc inside (closing ∷ []) right)))

inside_words : (inside right : List Ink) → ink_words ((inside ++ mark RightBrace ∷ []) ++ right) ≡ (ink_words inside ++ sign RightBrace ∷ []) ++ ink_words right
inside_words inside right = ink_words_append (inside ++ mark RightBrace ∷ []) right ∙ ap (λ ws. ws ++ ink_words right) (ink_words_append inside (mark RightBrace ∷ []))

inside_joins : (inside right : List Ink) → Joins inside → Starts right → Joins right → Joins ((inside ++ mark RightBrace ∷ []) ++ right)
inside_joins inside right j s k = joins_before (inside ++ mark RightBrace ∷ []) right (joins_between inside (sign RightBrace) [] right_brace_sign j nothing_joins) s k

-- sets
abbrev pub ChoiceIs : Counted TextSet → Type 0
ChoiceIs = IsPrinted Choice TextSet choice_words choice_spelled set_ink

abbrev SetPartsAre : Counted (List SetElement) → Type 0
SetPartsAre = ArePrinted SetPart SetElement set_part_words set_part_spelled set_element_ink

choice_printed : (l : Counted (Option TextGuard)) (es : Counted (List SetElement)) (r : Counted (Option TextGuard)) → GuardIs l → SetPartsAre es → GuardIs r → ChoiceIs (beside set_from l (beside set_pair es r))
choice_printed l es r hl hes hr =
    let inks : List (List Ink) = map set_element_ink es.value in
    let inside : List Ink = side_by_side semicolon_blank inks in
    let words : separated (sign Semicolon) (map set_part_words hes.derivations) ≡ ink_words inside = separated_printed SetPart SetElement set_part_words set_part_spelled set_element_ink semicolon_blank Semicolon refl es hes in
    record {
      written = record {
        derivation = record { left = hl.derivation; elements = hes.derivations; right = hr.derivation };
        words_are = (λ i. (hl.left_are i ++ sign LeftBrace ∷ words i) ++ sign RightBrace ∷ hr.right_are i)
            ∙ braces_words (ink_words (left_ink l.value)) (sign LeftBrace ∷ []) (ink_words inside) (ink_words (right_ink r.value)) (sign RightBrace)
            ∙ ap (λ ws. ink_words (left_ink l.value) ++ sign LeftBrace ∷ ws) (sym (inside_words inside (right_ink r.value)))
            ∙ sym (ink_words_append (left_ink l.value) (in_braces inks ++ right_ink r.value));
        spells = λ i. join set_from (hl.spells i) (join set_pair (hes.spells i) (hr.spells i));
      };
      joins = joins_before (left_ink l.value) (in_braces inks ++ right_ink r.value) hl.left_joins
          (sign_starts (sign LeftBrace) left_brace_sign ((inside ++ mark RightBrace ∷ []) ++ right_ink r.value))
          (behind_sign (sign LeftBrace) left_brace_sign ((inside ++ mark RightBrace ∷ []) ++ right_ink r.value)
          (inside_joins inside (right_ink r.value) (side_joins semicolon_blank semicolon_blank_between inks hes.all) hr.right_starts hr.right_joins));
    }

choice_some : (a : Option (Counted (Option TextGuard))) (b : Option (Counted (List SetElement))) (c : Option (Counted (Option TextGuard))) → IfSome a GuardIs → IfSome b SetPartsAre → IfSome c GuardIs → IfSome (join set_from a (join set_pair b c)) ChoiceIs
choice_some None None None h k l = tt
choice_some None None (Some c) h k l = tt
choice_some None (Some b) None h k l = tt
choice_some None (Some b) (Some c) h k l = tt
choice_some (Some a) None None h k l = tt
choice_some (Some a) None (Some c) h k l = tt
choice_some (Some a) (Some b) None h k l = tt
choice_some (Some a) (Some b) (Some c) h k l = choice_printed a b c h k l

pub choice_is : (s : Choice) → HaveNames (choice_words s) → IfSome (choice_spelled s) ChoiceIs
choice_is s n =
    let ns = names_split (left_words s.left ++ sign LeftBrace ∷ separated (sign Semicolon) (map set_part_words s.elements)) (sign RightBrace ∷ right_words s.right) n in
    let ms = names_split (left_words s.left) (sign LeftBrace ∷ separated (sign Semicolon) (map set_part_words s.elements)) ns.0 in
    choice_some (guard_spelled s.left) (row_of set_part_spelled s.elements) (guard_spelled s.right)
    (guard_is s.left (left_names s.left ms.0))
    (row_printed SetPart SetElement set_part_words set_part_spelled set_element_ink set_part_is s.elements (names_each Semicolon (map set_part_words s.elements) ms.1))
    (guard_is s.right (right_names s.right ns.1))

-- aggregates
abbrev pub AggregateIs : Counted TextAgg → Type 0
AggregateIs = IsPrinted Aggregate TextAgg aggregate_words aggregate_spelled agg_ink

abbrev TuplePartsAre : Counted (List AggElement) → Type 0
TuplePartsAre = ArePrinted TuplePart AggElement tuple_part_words tuple_part_spelled agg_element_ink

function_brace : (of : AggFn) (tail : List ℕ) → IsToken (sign (function_kind of)) (123 ∷ tail)
function_brace Count = count_brace
function_brace Sum = sum_brace

function_starts : (of : AggFn) (ink : List Ink) → Starts (mark (function_kind of) ∷ ink)
function_starts Count ink more f = refl
function_starts Sum ink more f = refl

aggregate_printed : (of : AggFn) (l : Counted (Option TextGuard)) (es : Counted (List AggElement)) (r : Counted (Option TextGuard)) → GuardIs l → TuplePartsAre es → GuardIs r → AggregateIs (beside (aggregate_from of) l (beside agg_pair es r))
aggregate_printed of l es r hl hes hr =
    let inks : List (List Ink) = map agg_element_ink es.value in
    let inside : List Ink = side_by_side semicolon_blank inks in
    let rest : List Ink = (inside ++ mark RightBrace ∷ []) ++ right_ink r.value in
    let words : separated (sign Semicolon) (map tuple_part_words hes.derivations) ≡ ink_words inside = separated_printed TuplePart AggElement tuple_part_words tuple_part_spelled agg_element_ink semicolon_blank Semicolon refl es hes in
    let rest_joins : Joins rest = inside_joins inside (right_ink r.value) (side_joins semicolon_blank semicolon_blank_between inks hes.all) hr.right_starts hr.right_joins in
    let braces_join : Joins (mark LeftBrace ∷ rest) = behind_sign (sign LeftBrace) left_brace_sign rest rest_joins in
    record {
      written = record {
        derivation = record { function_is = of; left = hl.derivation; elements = hes.derivations; right = hr.derivation };
        words_are = (λ i. (hl.left_are i ++ sign (function_kind of) ∷ sign LeftBrace ∷ words i) ++ sign RightBrace ∷ hr.right_are i)
            ∙ braces_words (ink_words (left_ink l.value)) (sign (function_kind of) ∷ sign LeftBrace ∷ []) (ink_words inside) (ink_words (right_ink r.value)) (sign RightBrace)
            ∙ ap (λ ws. ink_words (left_ink l.value) ++ sign (function_kind of) ∷ sign LeftBrace ∷ ws) (sym (inside_words inside (right_ink r.value)))
            ∙ sym (ink_words_append (left_ink l.value) (mark (function_kind of) ∷ (in_braces inks ++ right_ink r.value)));
        spells = λ i. join (aggregate_from of) (hl.spells i) (join agg_pair (hes.spells i) (hr.spells i));
      };
      joins = joins_before (left_ink l.value) (mark (function_kind of) ∷ mark LeftBrace ∷ rest) hl.left_joins
          (function_starts of (mark LeftBrace ∷ rest))
          (λ more f h. token (function_brace of (ink_text (rest ++ more))) (braces_join more f h));
    }

aggregate_some : (of : AggFn) (a : Option (Counted (Option TextGuard))) (b : Option (Counted (List AggElement))) (c : Option (Counted (Option TextGuard))) → IfSome a GuardIs → IfSome b TuplePartsAre → IfSome c GuardIs → IfSome (join (aggregate_from of) a (join agg_pair b c)) AggregateIs
aggregate_some of None None None h k l = tt
aggregate_some of None None (Some c) h k l = tt
aggregate_some of None (Some b) None h k l = tt
aggregate_some of None (Some b) (Some c) h k l = tt
aggregate_some of (Some a) None None h k l = tt
aggregate_some of (Some a) None (Some c) h k l = tt
aggregate_some of (Some a) (Some b) None h k l = tt
aggregate_some of (Some a) (Some b) (Some c) h k l = aggregate_printed of a b c h k l

pub aggregate_is : (a : Aggregate) → HaveNames (aggregate_words a) → IfSome (aggregate_spelled a) AggregateIs
aggregate_is a n =
    let inside : List Word = separated (sign Semicolon) (map tuple_part_words a.elements) in
    let ns = names_split (left_words a.left ++ sign (function_kind a.function_is) ∷ sign LeftBrace ∷ inside) (sign RightBrace ∷ right_words a.right) n in
    let ms = names_split (left_words a.left) (sign (function_kind a.function_is) ∷ sign LeftBrace ∷ inside) ns.0 in
    aggregate_some a.function_is (guard_spelled a.left) (row_of tuple_part_spelled a.elements) (guard_spelled a.right)
    (guard_is a.left (left_names a.left ms.0))
    (row_printed TuplePart AggElement tuple_part_words tuple_part_spelled agg_element_ink tuple_part_is a.elements (names_each Semicolon (map tuple_part_words a.elements) ms.1))
    (guard_is a.right (right_names a.right ns.1))
