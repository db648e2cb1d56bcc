-- Statements without pools become core rules: a set in a body is a count, a choice is one choice for each of
-- its elements and a bound, and guards stand on the right.
-- Source: core rules of ASP-Core-2 with clingo's choices, in a profile of this project.
use Rattle.std.specs.Prelude.{ℕ, Bool, true, List, [], ◌∷◌, ◌++◌, map, fold, length, Option, Some, None}
use Rattle.ms_grammar.specs.declared.statement.AggFn.{AggFn}
use Rattle.ms_grammar.specs.declared.statement.AggFn.TheVariants.{Count}
use Rattle.ms_grammar.specs.declared.statement.Cmp.{Cmp}
use Rattle.ms_grammar.specs.declared.statement.Cmp.TheVariants.{Eq, Ne, Lt, Le, Gt, Ge}
use Rattle.ms_grammar.specs.declared.statement.TextGuard.{TextGuard}
use Rattle.ms_grammar.specs.declared.statement.SetElement.{SetElement}
use Rattle.ms_grammar.specs.declared.statement.TextSet.{TextSet}
use Rattle.ms_grammar.specs.declared.statement.AggElement.{AggElement}
use Rattle.ms_grammar.specs.declared.statement.Head.TheVariants.{Empty, Atom as HeadAtom, Set as HeadSet}
use Rattle.ms_grammar.specs.declared.statement.BodyLit.{BodyLit}
use Rattle.ms_grammar.specs.declared.statement.BodyLit.TheVariants.{Lit, Set as BodySet, Agg as BodyAgg}
use Rattle.ms_grammar.specs.declared.statement.Form.{Form}
use Rattle.ms_grammar.specs.declared.statement.Form.TheVariants.{Rule, External as ExternalForm}
use Rattle.ms_grammar.specs.declared.term.TextTerm.{TextTerm}
use Rattle.ms_core.specs.declared.rule.Conds.{Conds}
use Rattle.ms_core.specs.declared.rule.Element.{Element}
use Rattle.ms_core.specs.declared.rule.Guard.{Guard}
use Rattle.ms_core.specs.declared.rule.Agg.{Agg}
use Rattle.ms_core.specs.declared.rule.RuleKind.{RuleKind}
use Rattle.ms_core.specs.declared.rule.RuleKind.TheVariants.{Normal, Choice, Constraint, External}
use Rattle.ms_core.specs.declared.rule.CoreRule.{CoreRule}
use Rattle.ms_core.specs.Ranges.{Maker, mapped, then_with, ranged, all_ranged, with_literals, only_ranges}

-- the comparison with its sides exchanged
abbrev pub turned : Cmp → Cmp
turned Eq = Eq
turned Ne = Ne
turned Lt = Gt
turned Le = Ge
turned Gt = Lt
turned Ge = Le

abbrev pub no_guard : Maker (List Guard)
no_guard next = record { value = []; ranges = [] }

abbrev pub right_guard : Option TextGuard → Maker (List Guard)
right_guard None = no_guard
right_guard (Some g) = mapped (λ bound. record { cmp = g.cmp; bound = bound } ∷ []) (ranged g.bound)

-- a guard on the left stands on the right with its comparison turned round
abbrev pub left_guard : Option TextGuard → Maker (List Guard)
left_guard None = no_guard
left_guard (Some g) = mapped (λ bound. record { cmp = turned g.cmp; bound = bound } ∷ []) (ranged g.bound)

abbrev pub guards : Option TextGuard → Option TextGuard → Maker (List Guard)
guards left right = then_with (λ l r. l ++ r) (left_guard left) (right_guard right)

-- The element of a count for an element of a set: the atom is the tuple and a condition, with one choice of
-- its ranges.
abbrev pub counted_element : ℕ → SetElement → Element
counted_element first e = record {
  tuple = (ranged e.atom first).value ∷ [];
  conds = with_literals first (record { pos = (ranged e.atom first).value ∷ []; neg = []; tests = []; ranges = (ranged e.atom first).ranges }) e.conds;
}

abbrev pub core_element : ℕ → AggElement → Element
core_element first e = record {
  tuple = (all_ranged e.tuple first).value;
  conds = with_literals first (only_ranges (all_ranged e.tuple first).ranges) e.conds;
}

-- a body, as far as it was read
pub record Body : Type 0 where
  pub conds : Conds
  pub aggs : List Agg

abbrev pub with_aggregate : Bool → AggFn → Maker (List Guard) → List Element → Body → Body
with_aggregate negated function make elements b = record {
  conds = record b.conds { ranges = b.conds.ranges ++ (make (length b.conds.ranges)).ranges };
  aggs = b.aggs ++ record { negated = negated; function = function; elements = elements; guards = (make (length b.conds.ranges)).value } ∷ [];
}

-- A body with one more part. The ranges of elements are numbered from `first` on.
abbrev pub with_part : ℕ → Body → BodyLit → Body
with_part first b (Lit l) = record b { conds = with_literals 0 b.conds (l ∷ []) }
with_part first b (BodySet negated s) = with_aggregate negated Count (guards s.left s.right) (map (counted_element first) s.elements) b
with_part first b (BodyAgg negated a) = with_aggregate negated a.function (guards a.left a.right) (map (core_element first) a.elements) b

abbrev pub with_parts : ℕ → Body → List BodyLit → Body
with_parts first b parts = fold (with_part first) b parts

abbrev pub no_body : Body
no_body = record { conds = only_ranges []; aggs = [] }

-- a rule of which the number of ranges is given
abbrev pub numbered_rule : RuleKind → Option TextTerm → List BodyLit → ℕ → CoreRule
numbered_rule kind None parts first = record {
  kind = kind;
  head = None;
  conds = (with_parts first no_body parts).conds;
  aggs = (with_parts first no_body parts).aggs;
}
numbered_rule kind (Some a) parts first = record {
  kind = kind;
  head = Some (ranged a 0).value;
  conds = (with_parts first (record { conds = only_ranges (ranged a 0).ranges; aggs = [] }) parts).conds;
  aggs = (with_parts first (record { conds = only_ranges (ranged a 0).ranges; aggs = [] }) parts).aggs;
}

-- the number of ranges doesn't depend on the numbers of those in elements
abbrev pub finished : (ℕ → CoreRule) → CoreRule
finished rule = rule (length (rule 0).conds.ranges)

-- The core rule of a head, if there is one, and a body.
abbrev pub core_rule : RuleKind → Option TextTerm → List BodyLit → CoreRule
core_rule kind head parts = finished (numbered_rule kind head parts)

-- a choice of one atom: the body, and then the conditions of the element
abbrev pub numbered_choice : List BodyLit → SetElement → ℕ → CoreRule
numbered_choice parts e first = record {
  kind = Choice;
  head = Some (ranged e.atom (length (with_parts first no_body parts).conds.ranges)).value;
  conds = with_literals 0 (record (with_parts first no_body parts).conds { ranges = (with_parts first no_body parts).conds.ranges ++ (ranged e.atom (length (with_parts first no_body parts).conds.ranges)).ranges }) e.conds;
  aggs = (with_parts first no_body parts).aggs;
}

abbrev pub core_choice : List BodyLit → SetElement → CoreRule
core_choice parts e = finished (numbered_choice parts e)

-- Where a guard is given, the number of chosen atoms isn't outside the bounds where the body holds.
abbrev pub bound : TextSet → List BodyLit → List CoreRule
bound s parts = elim s.left [
  | Some l ↦ core_rule Constraint None (parts ++ BodySet true s ∷ []) ∷ []
  | None ↦ elim s.right [ Some r ↦ core_rule Constraint None (parts ++ BodySet true s ∷ []) ∷ [] | None ↦ [] ]
]

-- The core rules of a statement without pools. A directive other than an external has none.
abbrev pub core_rules : Form → List CoreRule
core_rules (Rule Empty parts) = core_rule Constraint None parts ∷ []
core_rules (Rule (HeadAtom a) parts) = core_rule Normal (Some a) parts ∷ []
core_rules (Rule (HeadSet s) parts) = map (core_choice parts) s.elements ++ bound s parts
core_rules (ExternalForm a) = core_rule External (Some a) [] ∷ []
core_rules form = []
