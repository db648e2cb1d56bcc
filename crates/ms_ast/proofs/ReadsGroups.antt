-- What is spelled is what the function of the words gives: guards, sets, aggregates and parts of bodies.
use Rattle.std.proofs.Common.{◌≡◌, Bool, true, false, List, [], ◌∷◌, ◌++◌, map, Option, Some, None, refl, ap, ◌∙◌, append_assoc}
use Rattle.std.specs.Option.{IfSome, option_map, option_and_then}
use Rattle.ms_text.specs.declared.token.TokenKind.{TokenKind}
use Rattle.ms_text.specs.declared.token.TokenKind.TheVariants.{Not, Count, Sum, Semicolon, LeftBrace, RightBrace}
use Rattle.ms_grammar.specs.declared.term.TextTerm.{TextTerm}
use Rattle.ms_grammar.specs.declared.statement.Cmp.{Cmp}
use Rattle.ms_grammar.specs.declared.statement.Cmp.TheVariants.{Le}
use Rattle.ms_grammar.specs.declared.statement.AggFn.{AggFn}
use Rattle.ms_grammar.specs.declared.statement.AggFn.TheVariants.{Count as count, Sum as sum}
use Rattle.ms_grammar.specs.declared.statement.TextGuard.{TextGuard}
use Rattle.ms_grammar.specs.declared.statement.TextLit.{TextLit}
use Rattle.ms_grammar.specs.declared.statement.TextLit.TheVariants.{Positive, Negated}
use Rattle.ms_grammar.specs.declared.statement.SetElement.{SetElement}
use Rattle.ms_grammar.specs.declared.statement.AggElement.{AggElement}
use Rattle.ms_grammar.specs.declared.statement.BodyLit.{BodyLit}
use Rattle.ms_grammar.specs.declared.statement.BodyLit.TheVariants.{Lit, Set as BodySet, Agg as BodyAgg}
use Rattle.ms_grammar.specs.declared.part.Part.{Part}
use Rattle.ms_grammar.specs.declared.part.Counted.{Counted}
use Rattle.ms_grammar.specs.Words.{Word, name, number, quoted, sign, separated}
use Rattle.ms_grammar.specs.Reading.{EndsTerm, EndsPart}
use Rattle.ms_grammar.specs.Terms as g
use Rattle.ms_grammar.specs.Statements as st
use Rattle.ms_grammar.specs.Statements.{Guard, left_words, right_words, guard_spelled, SetPart, set_part_words, set_part_spelled, TuplePart, tuple_part_words, tuple_part_spelled, Choice, choice_words, choice_spelled, set_from, Aggregate, aggregate_words, aggregate_spelled, aggregate_from, function_kind, BodyPart, body_part_words, body_part_spelled, Literal, literal_words, literal_spelled, atom_words, atom_spelled, bounded, term_spelled, cmp_of, alone, beside, join, row_of, with_value}
use Rattle.ms_read_term.specs.Machine.{run, at_start}
use Rattle.ms_ast.proofs.Somes.{map_some, weaker}
use Rattle.ms_ast.proofs.WordReader.{Found, mapped, after, or_else, bounded_found, read_term, read_some, read_any, is_semicolon, left_by, left_behind, left_from, read_left, right_by, right_from, read_right, choice_close, choice_open, read_choice, agg_close, agg_open, group_open, read_group, part_literal, part_else, read_part, read_set_part, read_tuple_part}
use Rattle.ms_ast.proofs.ReadsParts.{part_ends_term, kind_is_no_cmp, cmp_ends_term, cmp_begins_none, end_begins_none, TermRuns, term_runs, term_reads, bounded_found_is, AtomRuns, atom_runs, LiteralRead, literal_reads, separated_reads, any_from_some, ElementEnd, next_element, last_element, set_part_reads, tuple_part_reads}
use Rattle.ms_ast.proofs.Makers.{guard_with, test_with, set_pair, agg_pair}

-- what stands behind a guard on the left
pub data BraceNext : List Word → Type 0 where
  set_next : {ws : List Word} → BraceNext (sign LeftBrace ∷ ws)
  count_next : {ws : List Word} → BraceNext (sign Count ∷ ws)
  sum_next : {ws : List Word} → BraceNext (sign Sum ∷ ws)

abbrev LeftRead : List Word → List Word → Counted (Option TextGuard) → Type 0
LeftRead ws rest c = read_left (ws ++ rest) ≡ Some (c, rest)

no_left : {rest : List Word} → BraceNext rest → LeftRead [] rest (alone None)
no_left set_next = refl
no_left count_next = refl
no_left sum_next = refl

brace_ends_term : {rest : List Word} → BraceNext rest → EndsTerm rest
brace_ends_term set_next = refl
brace_ends_term count_next = refl
brace_ends_term sum_next = refl

bare_left : (p : Part) {rest : List Word} → BraceNext rest → left_behind p rest ≡ mapped (with_value (guard_with Le)) (bounded_found p rest)
bare_left p set_next = refl
bare_left p count_next = refl
bare_left p sum_next = refl

bare_left_read : (ws rest : List Word) → BraceNext rest → (c : Counted TextTerm) → TermRuns ws rest c → LeftRead ws rest (with_value (guard_with Le) c)
bare_left_read ws rest b c h = ap (λ o. left_from o (ws ++ rest)) h.runs ∙ bare_left h.part b ∙ ap (mapped (with_value (guard_with Le))) (bounded_found_is h.part c rest h.bounded_is)

signed_left_read : (ws rest : List Word) (kind : TokenKind) (cmp : Cmp) → cmp_of kind ≡ Some cmp → (c : Counted TextTerm) → TermRuns ws (sign kind ∷ rest) c → LeftRead (ws ++ sign kind ∷ []) rest (with_value (guard_with cmp) c)
signed_left_read ws rest kind cmp is c h =
    ap read_left (append_assoc ws (sign kind ∷ []) rest)
    ∙ ap (λ o. left_from o (ws ++ sign kind ∷ rest)) h.runs
    ∙ ap (λ o. left_by o h.part (sign kind ∷ rest) rest) is
    ∙ ap (mapped (with_value (guard_with cmp))) (bounded_found_is h.part c rest h.bounded_is)

signed_left : (t : g.Term) (kind : TokenKind) (rest : List Word) (o : Option Cmp) → cmp_of kind ≡ o → IfSome (option_and_then (λ cmp. option_map (with_value (guard_with cmp)) (term_spelled t)) o) (LeftRead (g.term_words t ++ sign kind ∷ []) rest)
signed_left t kind rest None is = tt
signed_left t kind rest (Some cmp) is = map_some (with_value (guard_with cmp)) (TermRuns (g.term_words t) (sign kind ∷ rest)) (LeftRead (g.term_words t ++ sign kind ∷ []) rest) (λ c h. signed_left_read (g.term_words t) rest kind cmp is c h) (term_spelled t) (term_runs t (sign kind ∷ rest) (cmp_ends_term kind cmp is))

left_reads : (o : Option Guard) (rest : List Word) → BraceNext rest → IfSome (guard_spelled o) (LeftRead (left_words o) rest)
left_reads None rest b = no_left b
left_reads (Some (st.bare t)) rest b = map_some (with_value (guard_with Le)) (TermRuns (g.term_words t) rest) (LeftRead (g.term_words t) rest) (λ c h. bare_left_read (g.term_words t) rest b c h) (term_spelled t) (term_runs t rest (brace_ends_term b))
left_reads (Some (st.signed t kind)) rest b = signed_left t kind rest (cmp_of kind) refl

-- guards on the right
abbrev RightRead : List Word → List Word → Counted (Option TextGuard) → Type 0
RightRead ws rest c = read_right (ws ++ rest) ≡ Some (c, rest)

right_at_end : (rest : List Word) → EndsPart rest → right_from None rest ≡ Some (alone None, rest)
right_at_end [] e = refl
right_at_end (sign kind ∷ ws) e = ap (λ o. right_by o (sign kind ∷ ws) ws) (kind_is_no_cmp kind e)
right_at_end (name f ∷ ws) e = absurd e
right_at_end (number n ∷ ws) e = absurd e
right_at_end (quoted s ∷ ws) e = absurd e

bare_right_read : (ws rest : List Word) (c : Counted TextTerm) → TermRuns ws rest c → RightRead ws rest (with_value (guard_with Le) c)
bare_right_read ws rest c h = ap (λ o. right_from o (ws ++ rest)) h.runs ∙ ap (mapped (with_value (guard_with Le))) (bounded_found_is h.part c rest h.bounded_is)

signed_right_read : (ws rest : List Word) (kind : TokenKind) (cmp : Cmp) → cmp_of kind ≡ Some cmp → (c : Counted TextTerm) → read_term (ws ++ rest) ≡ Some (c, rest) → RightRead (sign kind ∷ ws) rest (with_value (guard_with cmp) c)
signed_right_read ws rest kind cmp is c h =
    ap (λ o. right_from o (sign kind ∷ (ws ++ rest))) (cmp_begins_none kind cmp (ws ++ rest) is)
    ∙ ap (λ o. right_by o (sign kind ∷ (ws ++ rest)) (ws ++ rest)) is
    ∙ ap (mapped (with_value (guard_with cmp))) h

signed_right : (t : g.Term) (kind : TokenKind) (rest : List Word) → EndsPart rest → (o : Option Cmp) → cmp_of kind ≡ o → IfSome (option_and_then (λ cmp. option_map (with_value (guard_with cmp)) (term_spelled t)) o) (RightRead (sign kind ∷ g.term_words t) rest)
signed_right t kind rest e None is = tt
signed_right t kind rest e (Some cmp) is = map_some (with_value (guard_with cmp)) (λ c. read_term (g.term_words t ++ rest) ≡ Some (c, rest)) (RightRead (sign kind ∷ g.term_words t) rest) (λ c h. signed_right_read (g.term_words t) rest kind cmp is c h) (term_spelled t) (term_reads t rest (part_ends_term rest e))

right_reads : (o : Option Guard) (rest : List Word) → EndsPart rest → IfSome (guard_spelled o) (RightRead (right_words o) rest)
right_reads None rest e = ap (λ o. right_from o rest) (end_begins_none rest e) ∙ right_at_end rest e
right_reads (Some (st.bare t)) rest e = map_some (with_value (guard_with Le)) (TermRuns (g.term_words t) rest) (RightRead (g.term_words t) rest) (λ c h. bare_right_read (g.term_words t) rest c h) (term_spelled t) (term_runs t rest (part_ends_term rest e))
right_reads (Some (st.signed t kind)) rest e = signed_right t kind rest e (cmp_of kind) refl

-- elements up to the brace
semicolon_ends : (w : Word) (ws : List Word) → is_semicolon w ≡ true → ElementEnd (w ∷ ws)
semicolon_ends (sign Semicolon) ws e = next_element
semicolon_ends (sign kind) ws e = absurd (let false' : ⊥ = cc in false')
semicolon_ends (name f) ws e = absurd (let false' : ⊥ = cc in false')
semicolon_ends (number n) ws e = absurd (let false' : ⊥ = cc in false')
semicolon_ends (quoted s) ws e = absurd (let false' : ⊥ = cc in false')

set_parts_read : (es : List SetPart) (ws : List Word) → IfSome (row_of set_part_spelled es) (λ c. read_any read_set_part is_semicolon (separated (sign Semicolon) (map set_part_words es) ++ sign RightBrace ∷ ws) ≡ Some (c, sign RightBrace ∷ ws))
set_parts_read [] ws = refl
set_parts_read (e ∷ es) ws =
    let all : List Word = separated (sign Semicolon) (map set_part_words (e ∷ es)) ++ sign RightBrace ∷ ws in
    weaker (row_of set_part_spelled (e ∷ es)) (λ c. read_some read_set_part is_semicolon all ≡ Some (c, sign RightBrace ∷ ws)) (λ c. read_any read_set_part is_semicolon all ≡ Some (c, sign RightBrace ∷ ws))
    (λ c h. any_from_some (read_some read_set_part is_semicolon all) (Some (alone [], all)) c (sign RightBrace ∷ ws) h)
    (separated_reads set_part_words set_part_spelled read_set_part is_semicolon ElementEnd set_part_reads semicolon_ends Semicolon refl e es (sign RightBrace ∷ ws) last_element refl)

tuple_parts_read : (es : List TuplePart) (ws : List Word) → IfSome (row_of tuple_part_spelled es) (λ c. read_any read_tuple_part is_semicolon (separated (sign Semicolon) (map tuple_part_words es) ++ sign RightBrace ∷ ws) ≡ Some (c, sign RightBrace ∷ ws))
tuple_parts_read [] ws = refl
tuple_parts_read (e ∷ es) ws =
    let all : List Word = separated (sign Semicolon) (map tuple_part_words (e ∷ es)) ++ sign RightBrace ∷ ws in
    weaker (row_of tuple_part_spelled (e ∷ es)) (λ c. read_some read_tuple_part is_semicolon all ≡ Some (c, sign RightBrace ∷ ws)) (λ c. read_any read_tuple_part is_semicolon all ≡ Some (c, sign RightBrace ∷ ws))
    (λ c h. any_from_some (read_some read_tuple_part is_semicolon all) (Some (alone [], all)) c (sign RightBrace ∷ ws) h)
    (separated_reads tuple_part_words tuple_part_spelled read_tuple_part is_semicolon ElementEnd tuple_part_reads semicolon_ends Semicolon refl e es (sign RightBrace ∷ ws) last_element refl)

-- words in their groups
regrouped : (left before inside right rest : List Word) (closing : Word) → ((left ++ (before ++ inside)) ++ closing ∷ right) ++ rest ≡ left ++ (before ++ (inside ++ closing ∷ (right ++ rest)))
regrouped left before inside right rest closing =
    append_assoc (left ++ (before ++ inside)) (closing ∷ right) rest
    ∙ append_assoc left (before ++ inside) (closing ∷ (right ++ rest))
    ∙ ap (λ ws. left ++ ws) (append_assoc before inside (closing ∷ (right ++ rest)))

-- sets
choice_some : (a : Option (Counted (Option TextGuard))) (b : Option (Counted (List SetElement))) (c : Option (Counted (Option TextGuard))) (left inside right rest : List Word)
    → IfSome a (LeftRead left (sign LeftBrace ∷ (inside ++ sign RightBrace ∷ (right ++ rest))))
    → IfSome b (λ c. read_any read_set_part is_semicolon (inside ++ sign RightBrace ∷ (right ++ rest)) ≡ Some (c, sign RightBrace ∷ (right ++ rest)))
    → IfSome c (RightRead right rest)
    → IfSome (join set_from a (join set_pair b c)) (λ c. read_choice (((left ++ sign LeftBrace ∷ inside) ++ sign RightBrace ∷ right) ++ rest) ≡ Some (c, rest))
choice_some None None None left inside right rest h k l = tt
choice_some None None (Some c) left inside right rest h k l = tt
choice_some None (Some b) None left inside right rest h k l = tt
choice_some None (Some b) (Some c) left inside right rest h k l = tt
choice_some (Some a) None None left inside right rest h k l = tt
choice_some (Some a) None (Some c) left inside right rest h k l = tt
choice_some (Some a) (Some b) None left inside right rest h k l = tt
choice_some (Some a) (Some b) (Some c) left inside right rest h k l =
    ap read_choice (regrouped left (sign LeftBrace ∷ []) inside right rest (sign RightBrace))
    ∙ ap (λ o. after o choice_open) h
    ∙ ap (λ o. after o (choice_close a)) k
    ∙ ap (mapped (λ r. beside set_from a (beside set_pair b r))) l

pub choice_reads : (s : Choice) (rest : List Word) → EndsPart rest → IfSome (choice_spelled s) (λ c. read_choice (choice_words s ++ rest) ≡ Some (c, rest))
choice_reads s rest e =
    let inside : List Word = separated (sign Semicolon) (map set_part_words s.elements) in
    choice_some (guard_spelled s.left) (row_of set_part_spelled s.elements) (guard_spelled s.right) (left_words s.left) inside (right_words s.right) rest
    (left_reads s.left (sign LeftBrace ∷ (inside ++ sign RightBrace ∷ (right_words s.right ++ rest))) set_next)
    (set_parts_read s.elements (right_words s.right ++ rest))
    (right_reads s.right rest e)

-- a group: what is read of a set or an aggregate as a part of a body
abbrev GroupRead : Bool → List Word → List Word → Counted BodyLit → Type 0
GroupRead negated ws rest c = read_group negated (ws ++ rest) ≡ Some (c, rest)

choice_group_some : (negated : Bool) (a : Option (Counted (Option TextGuard))) (b : Option (Counted (List SetElement))) (c : Option (Counted (Option TextGuard))) (left inside right rest : List Word)
    → IfSome a (LeftRead left (sign LeftBrace ∷ (inside ++ sign RightBrace ∷ (right ++ rest))))
    → IfSome b (λ c. read_any read_set_part is_semicolon (inside ++ sign RightBrace ∷ (right ++ rest)) ≡ Some (c, sign RightBrace ∷ (right ++ rest)))
    → IfSome c (RightRead right rest)
    → IfSome (option_map (with_value (BodySet negated)) (join set_from a (join set_pair b c))) (GroupRead negated ((left ++ sign LeftBrace ∷ inside) ++ sign RightBrace ∷ right) rest)
choice_group_some negated None None None left inside right rest h k l = tt
choice_group_some negated None None (Some c) left inside right rest h k l = tt
choice_group_some negated None (Some b) None left inside right rest h k l = tt
choice_group_some negated None (Some b) (Some c) left inside right rest h k l = tt
choice_group_some negated (Some a) None None left inside right rest h k l = tt
choice_group_some negated (Some a) None (Some c) left inside right rest h k l = tt
choice_group_some negated (Some a) (Some b) None left inside right rest h k l = tt
choice_group_some negated (Some a) (Some b) (Some c) left inside right rest h k l =
    ap (read_group negated) (regrouped left (sign LeftBrace ∷ []) inside right rest (sign RightBrace))
    ∙ ap (λ o. after o (group_open negated)) h
    ∙ ap (λ o. mapped (with_value (BodySet negated)) (after o (choice_close a))) k
    ∙ ap (λ o. mapped (with_value (BodySet negated)) (mapped (λ r. beside set_from a (beside set_pair b r)) o)) l

pub choice_group : (negated : Bool) (s : Choice) (rest : List Word) → EndsPart rest → IfSome (option_map (with_value (BodySet negated)) (choice_spelled s)) (GroupRead negated (choice_words s) rest)
choice_group negated s rest e =
    let inside : List Word = separated (sign Semicolon) (map set_part_words s.elements) in
    choice_group_some negated (guard_spelled s.left) (row_of set_part_spelled s.elements) (guard_spelled s.right) (left_words s.left) inside (right_words s.right) rest
    (left_reads s.left (sign LeftBrace ∷ (inside ++ sign RightBrace ∷ (right_words s.right ++ rest))) set_next)
    (set_parts_read s.elements (right_words s.right ++ rest))
    (right_reads s.right rest e)

function_next : (of : AggFn) (ws : List Word) → BraceNext (sign (function_kind of) ∷ ws)
function_next count ws = count_next
function_next sum ws = sum_next

function_open : (negated : Bool) (of : AggFn) (l : Counted (Option TextGuard)) (ws : List Word) → group_open negated l (sign (function_kind of) ∷ ws) ≡ mapped (with_value (BodyAgg negated)) (agg_open of l ws)
function_open negated count l ws = refl
function_open negated sum l ws = refl

aggregate_some : (negated : Bool) (of : AggFn) (a : Option (Counted (Option TextGuard))) (b : Option (Counted (List AggElement))) (c : Option (Counted (Option TextGuard))) (left inside right rest : List Word)
    → IfSome a (LeftRead left (sign (function_kind of) ∷ sign LeftBrace ∷ (inside ++ sign RightBrace ∷ (right ++ rest))))
    → IfSome b (λ c. read_any read_tuple_part is_semicolon (inside ++ sign RightBrace ∷ (right ++ rest)) ≡ Some (c, sign RightBrace ∷ (right ++ rest)))
    → IfSome c (RightRead right rest)
    → IfSome (option_map (with_value (BodyAgg negated)) (join (aggregate_from of) a (join agg_pair b c))) (GroupRead negated ((left ++ sign (function_kind of) ∷ sign LeftBrace ∷ inside) ++ sign RightBrace ∷ right) rest)
aggregate_some negated of None None None left inside right rest h k l = tt
aggregate_some negated of None None (Some c) left inside right rest h k l = tt
aggregate_some negated of None (Some b) None left inside right rest h k l = tt
aggregate_some negated of None (Some b) (Some c) left inside right rest h k l = tt
aggregate_some negated of (Some a) None None left inside right rest h k l = tt
aggregate_some negated of (Some a) None (Some c) left inside right rest h k l = tt
aggregate_some negated of (Some a) (Some b) None left inside right rest h k l = tt
aggregate_some negated of (Some a) (Some b) (Some c) left inside right rest h k l =
    ap (read_group negated) (regrouped left (sign (function_kind of) ∷ sign LeftBrace ∷ []) inside right rest (sign RightBrace))
    ∙ ap (λ o. after o (group_open negated)) h
    ∙ function_open negated of a (sign LeftBrace ∷ (inside ++ sign RightBrace ∷ (right ++ rest)))
    ∙ ap (λ o. mapped (with_value (BodyAgg negated)) (after o (agg_close of a))) k
    ∙ ap (λ o. mapped (with_value (BodyAgg negated)) (mapped (λ r. beside (aggregate_from of) a (beside agg_pair b r)) o)) l

pub aggregate_group : (negated : Bool) (a : Aggregate) (rest : List Word) → EndsPart rest → IfSome (option_map (with_value (BodyAgg negated)) (aggregate_spelled a)) (GroupRead negated (aggregate_words a) rest)
aggregate_group negated a rest e =
    let inside : List Word = separated (sign Semicolon) (map tuple_part_words a.elements) in
    aggregate_some negated a.function_is (guard_spelled a.left) (row_of tuple_part_spelled a.elements) (guard_spelled a.right) (left_words a.left) inside (right_words a.right) rest
    (left_reads a.left (sign (function_kind a.function_is) ∷ sign LeftBrace ∷ (inside ++ sign RightBrace ∷ (right_words a.right ++ rest))) (function_next a.function_is (sign LeftBrace ∷ (inside ++ sign RightBrace ∷ (right_words a.right ++ rest)))))
    (tuple_parts_read a.elements (right_words a.right ++ rest))
    (right_reads a.right rest e)

-- an atom and a comparison are no group
opens_none : (negated : Bool) (l : Counted (Option TextGuard)) (rest : List Word) → EndsPart rest → group_open negated l rest ≡ None
opens_none negated l [] e = refl
opens_none negated l (sign LeftBrace ∷ ws) e = absurd (let false' : ⊥ = cc in false')
opens_none negated l (sign Count ∷ ws) e = absurd (let false' : ⊥ = cc in false')
opens_none negated l (sign Sum ∷ ws) e = absurd (let false' : ⊥ = cc in false')
opens_none negated l (sign kind ∷ ws) e = refl
opens_none negated l (name f ∷ ws) e = refl
opens_none negated l (number n ∷ ws) e = refl
opens_none negated l (quoted s ∷ ws) e = refl

pub choice_opens_none : (l : Counted (Option TextGuard)) (rest : List Word) → EndsPart rest → choice_open l rest ≡ None
choice_opens_none l [] e = refl
choice_opens_none l (sign LeftBrace ∷ ws) e = absurd (let false' : ⊥ = cc in false')
choice_opens_none l (sign kind ∷ ws) e = refl
choice_opens_none l (name f ∷ ws) e = refl
choice_opens_none l (number n ∷ ws) e = refl
choice_opens_none l (quoted s ∷ ws) e = refl

term_opens_none : (negated : Bool) (l : Counted (Option TextGuard)) (ws rest : List Word) (p : Part) → run at_start ws ≡ Some (p, rest) → group_open negated l ws ≡ None
term_opens_none negated l [] rest p e = refl
term_opens_none negated l (sign LeftBrace ∷ ws) rest p e = cc
term_opens_none negated l (sign Count ∷ ws) rest p e = cc
term_opens_none negated l (sign Sum ∷ ws) rest p e = cc
term_opens_none negated l (sign kind ∷ ws) rest p e = refl
term_opens_none negated l (name f ∷ ws) rest p e = refl
term_opens_none negated l (number n ∷ ws) rest p e = refl
term_opens_none negated l (quoted s ∷ ws) rest p e = refl

-- what is left of the words behind a guard without a sign
left_at_end : (p : Part) (rest : List Word) → EndsPart rest → left_behind p rest ≡ mapped (with_value (guard_with Le)) (bounded_found p rest)
left_at_end p [] e = refl
left_at_end p (sign kind ∷ ws) e = ap (λ o. left_by o p (sign kind ∷ ws) ws) (kind_is_no_cmp kind e)
left_at_end p (name f ∷ ws) e = absurd e
left_at_end p (number n ∷ ws) e = absurd e
left_at_end p (quoted s ∷ ws) e = absurd e

bounded_none : {A : Type 0} (cmp : Cmp) (o : Option (Counted TextTerm)) (ws : List Word) (go : Counted (Option TextGuard) → List Word → Found A) → ((l : Counted (Option TextGuard)) → go l ws ≡ None) → after (mapped (with_value (guard_with cmp)) (option_map (λ c. (c, ws)) o)) go ≡ None
bounded_none cmp None ws go h = refl
bounded_none cmp (Some c) ws go h = h (with_value (guard_with cmp) c)

atom_opens_none : {A : Type 0} (ws rest : List Word) (c : Counted TextTerm) → AtomRuns ws rest c → EndsPart rest → (go : Counted (Option TextGuard) → List Word → Found A) → ((l : Counted (Option TextGuard)) → go l rest ≡ None) → after (read_left (ws ++ rest)) go ≡ None
atom_opens_none ws rest c h e go none =
    ap (λ o. after (left_from o (ws ++ rest)) go) h.runs
    ∙ ap (λ o. after o go) (left_at_end h.part rest e)
    ∙ bounded_none Le (bounded h.part) rest go none

pub atom_is_no_group : (negated : Bool) (ws rest : List Word) (c : Counted TextTerm) → AtomRuns ws rest c → EndsPart rest → read_group negated (ws ++ rest) ≡ None
atom_is_no_group negated ws rest c h e = atom_opens_none ws rest c h e (group_open negated) (λ l. opens_none negated l rest e)

pub atom_is_no_choice : (ws rest : List Word) (c : Counted TextTerm) → AtomRuns ws rest c → EndsPart rest → read_choice (ws ++ rest) ≡ None
atom_is_no_choice ws rest c h e = atom_opens_none ws rest c h e choice_open (λ l. choice_opens_none l rest e)

test_is_no_group : (ls rs rest : List Word) (kind : TokenKind) (cmp : Cmp) → cmp_of kind ≡ Some cmp → (c d : Counted TextTerm) → TermRuns ls (sign kind ∷ (rs ++ rest)) c → TermRuns rs rest d → read_group false ((ls ++ sign kind ∷ rs) ++ rest) ≡ None
test_is_no_group ls rs rest kind cmp is c d h k =
    ap (read_group false) (append_assoc ls (sign kind ∷ rs) rest)
    ∙ ap (λ o. after (left_from o (ls ++ sign kind ∷ (rs ++ rest))) (group_open false)) h.runs
    ∙ ap (λ o. after (left_by o h.part (sign kind ∷ (rs ++ rest)) (rs ++ rest)) (group_open false)) is
    ∙ bounded_none cmp (bounded h.part) (rs ++ rest) (group_open false) (λ l. term_opens_none false l (rs ++ rest) rest k.part k.runs)

-- parts of bodies
abbrev PartRead : List Word → List Word → Counted BodyLit → Type 0
PartRead ws rest c = read_part (ws ++ rest) ≡ Some (c, rest)

-- no term begins with `not`
else_literal : (ws rest : List Word) (p : Part) → run at_start ws ≡ Some (p, rest) → part_else ws ≡ part_literal ws
else_literal [] rest p e = refl
else_literal (sign Not ∷ ws) rest p e = cc
else_literal (sign kind ∷ ws) rest p e = refl
else_literal (name f ∷ ws) rest p e = refl
else_literal (number n ∷ ws) rest p e = refl
else_literal (quoted s ∷ ws) rest p e = refl

literal_part_read : (ws rest : List Word) (l : Counted TextLit) → read_group false (ws ++ rest) ≡ None → part_else (ws ++ rest) ≡ part_literal (ws ++ rest) → LiteralRead ws rest l → PartRead ws rest (with_value Lit l)
literal_part_read ws rest l none other k = ap (λ o. or_else o (part_else (ws ++ rest))) none ∙ other ∙ ap (mapped (with_value Lit)) k

positive_some : (a : Option (Counted TextTerm)) (f : Counted TextTerm → Counted TextLit) (ws rest : List Word) → EndsPart rest → IfSome a (AtomRuns ws rest) → IfSome (option_map f a) (LiteralRead ws rest) → IfSome (option_map (with_value Lit) (option_map f a)) (PartRead ws rest)
positive_some None f ws rest e h k = tt
positive_some (Some c) f ws rest e h k = literal_part_read ws rest (f c) (atom_is_no_group false ws rest c h e) (else_literal (ws ++ rest) rest h.part h.runs) k

negated_some : (a : Option (Counted TextTerm)) (f : Counted TextTerm → Counted TextLit) (ws rest : List Word) → EndsPart rest → IfSome a (AtomRuns ws rest) → IfSome (option_map f a) (LiteralRead (sign Not ∷ ws) rest) → IfSome (option_map (with_value Lit) (option_map f a)) (PartRead (sign Not ∷ ws) rest)
negated_some None f ws rest e h k = tt
negated_some (Some c) f ws rest e h k = ap (λ o. or_else o (part_literal (sign Not ∷ (ws ++ rest)))) (atom_is_no_group true ws rest c h e) ∙ ap (mapped (with_value Lit)) k

test_some : (o : Option Cmp) (a b : Option (Counted TextTerm)) (f : Cmp → Counted TextTerm → Counted TextTerm → Counted TextLit) (ls rs rest : List Word) (kind : TokenKind) → cmp_of kind ≡ o
    → ((cmp : Cmp) → cmp_of kind ≡ Some cmp → IfSome a (TermRuns ls (sign kind ∷ (rs ++ rest)))) → IfSome b (TermRuns rs rest)
    → IfSome (option_and_then (λ cmp. g.both (λ x y. Some (f cmp x y)) a b) o) (LiteralRead (ls ++ sign kind ∷ rs) rest)
    → IfSome (option_map (with_value Lit) (option_and_then (λ cmp. g.both (λ x y. Some (f cmp x y)) a b) o)) (PartRead (ls ++ sign kind ∷ rs) rest)
test_some None a b f ls rs rest kind is h k l = tt
test_some (Some cmp) None None f ls rs rest kind is h k l = tt
test_some (Some cmp) None (Some d) f ls rs rest kind is h k l = tt
test_some (Some cmp) (Some c) None f ls rs rest kind is h k l = tt
test_some (Some cmp) (Some c) (Some d) f ls rs rest kind is h k l =
    let runs : TermRuns ls (sign kind ∷ (rs ++ rest)) c = h cmp is in
    let all : run at_start ((ls ++ sign kind ∷ rs) ++ rest) ≡ Some (runs.part, sign kind ∷ (rs ++ rest)) = ap (run at_start) (append_assoc ls (sign kind ∷ rs) rest) ∙ runs.runs in
    literal_part_read (ls ++ sign kind ∷ rs) rest (f cmp c d) (test_is_no_group ls rs rest kind cmp is c d runs k) (else_literal ((ls ++ sign kind ∷ rs) ++ rest) (sign kind ∷ (rs ++ rest)) runs.part all) l

group_part : (o : Option (Counted BodyLit)) (ws rest : List Word) → IfSome o (GroupRead false ws rest) → IfSome o (PartRead ws rest)
group_part None ws rest h = tt
group_part (Some c) ws rest h = any_from_some (read_group false (ws ++ rest)) (part_else (ws ++ rest)) c rest h

negated_group_part : (o : Option (Counted BodyLit)) (ws rest : List Word) → IfSome o (GroupRead true ws rest) → IfSome o (PartRead (sign Not ∷ ws) rest)
negated_group_part None ws rest h = tt
negated_group_part (Some c) ws rest h = any_from_some (read_group true (ws ++ rest)) (part_literal (sign Not ∷ (ws ++ rest))) c rest h

pub part_reads : (p : BodyPart) (rest : List Word) → EndsPart rest → IfSome (body_part_spelled p) (λ c. read_part (body_part_words p ++ rest) ≡ Some (c, rest))
part_reads (st.literal (st.positive a)) rest e = positive_some (atom_spelled a) (with_value Positive) (atom_words a) rest e (atom_runs a rest (part_ends_term rest e)) (literal_reads (st.positive a) rest e)
part_reads (st.literal (st.negated a)) rest e = negated_some (atom_spelled a) (with_value Negated) (atom_words a) rest e (atom_runs a rest (part_ends_term rest e)) (literal_reads (st.negated a) rest e)
part_reads (st.literal (st.test l kind r)) rest e = test_some (cmp_of kind) (term_spelled l) (term_spelled r) (λ cmp c d. beside (test_with cmp) c d) (g.term_words l) (g.term_words r) rest kind refl (λ cmp is. term_runs l (sign kind ∷ (g.term_words r ++ rest)) (cmp_ends_term kind cmp is)) (term_runs r rest (part_ends_term rest e)) (literal_reads (st.test l kind r) rest e)
part_reads (st.choice false s) rest e = group_part (option_map (with_value (BodySet false)) (choice_spelled s)) (choice_words s) rest (choice_group false s rest e)
part_reads (st.choice true s) rest e = negated_group_part (option_map (with_value (BodySet true)) (choice_spelled s)) (choice_words s) rest (choice_group true s rest e)
part_reads (st.aggregate false a) rest e = group_part (option_map (with_value (BodyAgg false)) (aggregate_spelled a)) (aggregate_words a) rest (aggregate_group false a rest e)
part_reads (st.aggregate true a) rest e = negated_group_part (option_map (with_value (BodyAgg true)) (aggregate_spelled a)) (aggregate_words a) rest (aggregate_group true a rest e)
