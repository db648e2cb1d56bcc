-- What words spell, as a function of them. It need not refuse words that spell nothing.
use Rattle.std.proofs.Common.{ℕ, zero, suc, Bool, true, false, List, [], ◌∷◌, length, Option, Some, None}
use Rattle.std.specs.Option.{option_map}
use Rattle.ms_text.specs.declared.token.TokenKind.TheVariants.{Not, Program, External, Const, Show, Include, Count, Sum, Dot, Comma, Semicolon, Colon, If, LeftBrace, RightBrace, Slash, Equal}
use Rattle.ms_grammar.specs.declared.term.TextTerm.{TextTerm}
use Rattle.ms_grammar.specs.declared.statement.Cmp.{Cmp}
use Rattle.ms_grammar.specs.declared.statement.Cmp.TheVariants.{Le}
use Rattle.ms_grammar.specs.declared.statement.AggFn.{AggFn}
use Rattle.ms_grammar.specs.declared.statement.AggFn.TheVariants.{Count as count, Sum as sum}
use Rattle.ms_grammar.specs.declared.statement.TextLit.{TextLit}
use Rattle.ms_grammar.specs.declared.statement.TextLit.TheVariants.{Positive, Negated}
use Rattle.ms_grammar.specs.declared.statement.TextGuard.{TextGuard}
use Rattle.ms_grammar.specs.declared.statement.SetElement.{SetElement}
use Rattle.ms_grammar.specs.declared.statement.TextSet.{TextSet}
use Rattle.ms_grammar.specs.declared.statement.AggElement.{AggElement}
use Rattle.ms_grammar.specs.declared.statement.TextAgg.{TextAgg}
use Rattle.ms_grammar.specs.declared.statement.Head.{Head}
use Rattle.ms_grammar.specs.declared.statement.Head.TheVariants.{Empty, Atom as HeadAtom, Set as HeadSet}
use Rattle.ms_grammar.specs.declared.statement.BodyLit.{BodyLit}
use Rattle.ms_grammar.specs.declared.statement.BodyLit.TheVariants.{Lit, Set as BodySet, Agg as BodyAgg}
use Rattle.ms_grammar.specs.declared.statement.Form.{Form}
use Rattle.ms_grammar.specs.declared.statement.Form.TheVariants.{Program as ProgramForm, External as ExternalForm, Const as ConstForm, Show as ShowForm, ShowNone, IncludeIncmode}
use Rattle.ms_grammar.specs.declared.part.Part.{Part}
use Rattle.ms_grammar.specs.declared.part.Counted.{Counted}
use Rattle.ms_grammar.specs.Words.{Word, name, number, sign}
use Rattle.ms_grammar.specs.Statements.{as_atom, bounded, cmp_of, alone, beside, with_value, as_element, set_from, aggregate_from}
use Rattle.ms_read_term.specs.Machine.{run, at_start}
use Rattle.ms_read_value.specs.Front.{counted}
use Rattle.ms_ast.proofs.Makers.{test_with, set_element, agg_element, guard_with, set_pair, agg_pair, rule_of}

-- what is found at the front, with the words behind it
abbrev pub Found : Type 0 → Type 0
Found A = Option (A × List Word)

abbrev pub mapped : {A B : Type 0} → (A → B) → Found A → Found B
mapped f None = None
mapped f (Some r) = Some (f r.0, r.1)

abbrev pub after : {A B : Type 0} → Found A → (A → List Word → Found B) → Found B
after None f = None
after (Some r) f = f r.0 r.1

abbrev pub or_else : {A : Type 0} → Found A → Found A → Found A
or_else None other = other
or_else (Some r) other = Some r

-- terms and atoms
abbrev pub read_atom : List Word → Found (Counted TextTerm)
read_atom ws = mapped as_atom (run at_start ws)

abbrev pub bounded_found : Part → List Word → Found (Counted TextTerm)
bounded_found p ws = option_map (λ c. (c, ws)) (bounded p)

abbrev pub read_term : List Word → Found (Counted TextTerm)
read_term ws = after (run at_start ws) bounded_found

-- literals
abbrev pub literal_by : Option Cmp → Part → List Word → List Word → Found (Counted TextLit)
literal_by None p all ws = Some (with_value Positive (as_atom p), all)
literal_by (Some cmp) p all ws = after (bounded_found p ws) (λ c rest. mapped (beside (test_with cmp) c) (read_term rest))

abbrev pub literal_behind : Part → List Word → Found (Counted TextLit)
literal_behind p (sign kind ∷ ws) = literal_by (cmp_of kind) p (sign kind ∷ ws) ws
literal_behind p ws = Some (with_value Positive (as_atom p), ws)

abbrev pub literal_else : List Word → Found (Counted TextLit)
literal_else (sign Not ∷ ws) = mapped (with_value Negated) (read_atom ws)
literal_else ws = None

abbrev pub literal_from : Found Part → List Word → Found (Counted TextLit)
literal_from None ws = literal_else ws
literal_from (Some r) ws = literal_behind r.0 r.1

abbrev pub read_literal : List Word → Found (Counted TextLit)
read_literal ws = literal_from (run at_start ws) ws

-- lists, with a separator between each two
module _ {V : Type 0} (read : List Word → Found (Counted V)) (separates : Word → Bool) where
  abbrev pub row_behind : (List Word → Found (Counted (List V))) → Counted V → List Word → Found (Counted (List V))
  row_behind next c [] = Some (beside (λ x xs. x ∷ xs) c (alone []), [])
  row_behind next c (w ∷ ws) = elim (separates w) [ true ↦ mapped (beside (λ x xs. x ∷ xs) c) (next ws) | false ↦ Some (beside (λ x xs. x ∷ xs) c (alone []), w ∷ ws) ]

  abbrev pub read_row : ℕ → List Word → Found (Counted (List V))
  read_row zero ws = None
  read_row (suc n) ws = after (read ws) (row_behind (read_row n))

  abbrev pub read_some : List Word → Found (Counted (List V))
  read_some ws = read_row (suc (length ws)) ws

  -- the same, and the empty list where none is found
  abbrev pub read_any : List Word → Found (Counted (List V))
  read_any ws = or_else (read_some ws) (Some (alone [], ws))

abbrev pub is_comma : Word → Bool
is_comma (sign Comma) = true
is_comma w = false

abbrev pub is_semicolon : Word → Bool
is_semicolon (sign Semicolon) = true
is_semicolon w = false

abbrev pub is_separator : Word → Bool
is_separator (sign Comma) = true
is_separator (sign Semicolon) = true
is_separator w = false

-- elements
abbrev pub read_conditions : List Word → Found (Counted (List TextLit))
read_conditions (sign Colon ∷ ws) = read_any read_literal is_comma ws
read_conditions ws = Some (alone [], ws)

abbrev pub read_set_part : List Word → Found (Counted SetElement)
read_set_part ws = after (read_atom ws) (λ a rest. mapped (λ conds. as_element (beside set_element a conds)) (read_conditions rest))

abbrev pub read_tuple_part : List Word → Found (Counted AggElement)
read_tuple_part ws = after (read_some read_term is_comma ws) (λ ts rest. mapped (λ conds. as_element (beside agg_element ts conds)) (read_conditions rest))

-- guards
abbrev pub left_by : Option Cmp → Part → List Word → List Word → Found (Counted (Option TextGuard))
left_by None p all ws = mapped (with_value (guard_with Le)) (bounded_found p all)
left_by (Some cmp) p all ws = mapped (with_value (guard_with cmp)) (bounded_found p ws)

abbrev pub left_behind : Part → List Word → Found (Counted (Option TextGuard))
left_behind p (sign kind ∷ ws) = left_by (cmp_of kind) p (sign kind ∷ ws) ws
left_behind p ws = mapped (with_value (guard_with Le)) (bounded_found p ws)

abbrev pub left_from : Found Part → List Word → Found (Counted (Option TextGuard))
left_from None ws = Some (alone None, ws)
left_from (Some r) ws = left_behind r.0 r.1

abbrev pub read_left : List Word → Found (Counted (Option TextGuard))
read_left ws = left_from (run at_start ws) ws

abbrev pub right_by : Option Cmp → List Word → List Word → Found (Counted (Option TextGuard))
right_by None all ws = Some (alone None, all)
right_by (Some cmp) all ws = mapped (with_value (guard_with cmp)) (read_term ws)

abbrev pub right_else : List Word → Found (Counted (Option TextGuard))
right_else (sign kind ∷ ws) = right_by (cmp_of kind) (sign kind ∷ ws) ws
right_else ws = Some (alone None, ws)

abbrev pub right_from : Found Part → List Word → Found (Counted (Option TextGuard))
right_from None ws = right_else ws
right_from (Some r) ws = mapped (with_value (guard_with Le)) (bounded_found r.0 r.1)

abbrev pub read_right : List Word → Found (Counted (Option TextGuard))
read_right ws = right_from (run at_start ws) ws

-- sets and aggregates
abbrev pub choice_close : Counted (Option TextGuard) → Counted (List SetElement) → List Word → Found (Counted TextSet)
choice_close l es (sign RightBrace ∷ ws) = mapped (λ r. beside set_from l (beside set_pair es r)) (read_right ws)
choice_close l es ws = None

abbrev pub choice_open : Counted (Option TextGuard) → List Word → Found (Counted TextSet)
choice_open l (sign LeftBrace ∷ ws) = after (read_any read_set_part is_semicolon ws) (choice_close l)
choice_open l ws = None

abbrev pub read_choice : List Word → Found (Counted TextSet)
read_choice ws = after (read_left ws) choice_open

abbrev pub agg_close : AggFn → Counted (Option TextGuard) → Counted (List AggElement) → List Word → Found (Counted TextAgg)
agg_close of l es (sign RightBrace ∷ ws) = mapped (λ r. beside (aggregate_from of) l (beside agg_pair es r)) (read_right ws)
agg_close of l es ws = None

abbrev pub agg_open : AggFn → Counted (Option TextGuard) → List Word → Found (Counted TextAgg)
agg_open of l (sign LeftBrace ∷ ws) = after (read_any read_tuple_part is_semicolon ws) (agg_close of l)
agg_open of l ws = None

-- parts of bodies
abbrev pub group_open : Bool → Counted (Option TextGuard) → List Word → Found (Counted BodyLit)
group_open negated l (sign LeftBrace ∷ ws) = mapped (with_value (BodySet negated)) (choice_open l (sign LeftBrace ∷ ws))
group_open negated l (sign Count ∷ ws) = mapped (with_value (BodyAgg negated)) (agg_open count l ws)
group_open negated l (sign Sum ∷ ws) = mapped (with_value (BodyAgg negated)) (agg_open sum l ws)
group_open negated l ws = None

abbrev pub read_group : Bool → List Word → Found (Counted BodyLit)
read_group negated ws = after (read_left ws) (group_open negated)

abbrev pub part_literal : List Word → Found (Counted BodyLit)
part_literal ws = mapped (with_value Lit) (read_literal ws)

abbrev pub part_else : List Word → Found (Counted BodyLit)
part_else (sign Not ∷ ws) = or_else (read_group true ws) (part_literal (sign Not ∷ ws))
part_else ws = part_literal ws

abbrev pub read_part : List Word → Found (Counted BodyLit)
read_part ws = or_else (read_group false ws) (part_else ws)

-- rules
abbrev pub read_head : List Word → Found (Counted Head)
read_head ws = or_else (mapped (with_value HeadSet) (read_choice ws)) (or_else (mapped (with_value HeadAtom) (read_atom ws)) (Some (alone Empty, ws)))

abbrev pub read_tail : List Word → Found (Counted (List BodyLit))
read_tail (sign If ∷ ws) = read_any read_part is_separator ws
read_tail ws = Some (alone [], ws)

abbrev pub rule_end : Counted Form → List Word → Option (Counted Form)
rule_end c (sign Dot ∷ ws) = Some c
rule_end c ws = None

abbrev pub rule_with : Counted Head → Found (Counted (List BodyLit)) → Option (Counted Form)
rule_with h None = None
rule_with h (Some b) = rule_end (beside rule_of h b.0) b.1

abbrev pub rule_from : Found (Counted Head) → Option (Counted Form)
rule_from None = None
rule_from (Some h) = rule_with h.0 (read_tail h.1)

abbrev pub read_rule : List Word → Option (Counted Form)
read_rule ws = rule_from (read_head ws)

-- directives
abbrev pub names_of : List Word → List (List ℕ)
names_of [] = []
names_of (name n ∷ ws) = n ∷ names_of ws
names_of (w ∷ ws) = names_of ws

abbrev pub value_of : Option (Counted TextTerm × List Word) → Option (Counted Form)
value_of None = None
value_of (Some r) = Some (with_value ExternalForm r.0)

abbrev pub read_directive : List Word → Option (Counted Form)
read_directive (sign Program ∷ name n ∷ ws) = Some (alone (ProgramForm n (names_of ws)))
read_directive (sign External ∷ ws) = value_of (read_atom ws)
read_directive (sign Const ∷ name n ∷ sign Equal ∷ ws) = option_map (λ f. alone (ConstForm n f.0.value)) (counted ws)
read_directive (sign Show ∷ name p ∷ sign Slash ∷ number n ∷ ws) = Some (alone (ShowForm p n))
read_directive (sign Show ∷ sign Dot ∷ ws) = Some (alone ShowNone)
read_directive (sign Include ∷ ws) = Some (alone IncludeIncmode)
read_directive ws = None

abbrev pub rule_or : Option (Counted Form) → Option (Counted Form) → Option (Counted Form)
rule_or None other = other
rule_or (Some c) other = Some c

-- a statement
abbrev pub read_statement : List Word → Option (Counted Form)
read_statement ws = rule_or (read_rule ws) (read_directive ws)
