-- The ground module of core rules over a base. The number of an atom is its place: the atoms of the base come
-- first, and then the new ones in term order.
-- Source: modules after Oikarinen and Janhunen, "Modular equivalence for normal logic programs" (2006), and Gebser,
-- Kaminski, Kaufmann and Schaub, "Multi-shot ASP solving with clingo" (2019). The exact sets are this project's.
-- Rules with aggregates aren't ground yet.
use Rattle.std.specs.Prelude.{ℕ, ◌≡◌, ◌↔◌, List, [], ◌++◌, Option, Some, None, All, Any, Contains, IsSomeAnd, length, slice_get}
use Rattle.std.specs.List.Sorted.{IsStrictlyIncreasing, IsStrictlySortedBy}
use Rattle.ms_tree.specs.Tree.{Tree}
use Rattle.ms_tree.specs.Order.{compare_trees}
use Rattle.ms_core.specs.declared.pattern.Pattern.{Pattern}
use Rattle.ms_core.specs.declared.rule.RuleKind.{RuleKind}
use Rattle.ms_core.specs.declared.rule.RuleKind.TheVariants.{Normal, Choice, Constraint, External}
use Rattle.ms_core.specs.declared.rule.CoreRule.{CoreRule}
use Rattle.ms_join.specs.declared.ground_rule.GroundRule.{GroundRule}
use Rattle.ms_join.specs.declared.ground_rule.GroundKind.{GroundKind}
use Rattle.ms_join.specs.declared.ground_rule.GroundKind.TheVariants.{Normal as normal, Choice as choice, Constraint as constraint}
use Rattle.ms_join.specs.declared.ground_module.GroundModule.{GroundModule}
use Rattle.ms_join.specs.Orders.{compare_rules}
use Rattle.ms_copies.specs.Evaluating.{Chosen, value}
use Rattle.ms_copies.specs.Choosing.{IsCopy}
use Rattle.ms_copies.specs.Grounding.{head_under, IsHead, IsExternal, IsKnown}

-- the kind of the rule that a copy leaves: an external leaves none
abbrev pub ground_kind : RuleKind → Option GroundKind
ground_kind Normal = Some normal
ground_kind Choice = Some choice
ground_kind Constraint = Some constraint
ground_kind External = None

-- the value is one of the atoms
abbrev pub IsAmong : List Tree → Chosen → Pattern → Type 0
IsAmong atoms chosen p = IsSomeAnd (value chosen p) (Contains atoms)

-- the place at which the atom stands, where there is an atom
abbrev pub IsNumbered : List Tree → Option Tree → Option ℕ → Type 0
IsNumbered atoms None place = place ≡ None
IsNumbered atoms (Some t) place = IsSomeAnd place (λ a. slice_get atoms a ≡ Some t)

-- These are the numbers of the atoms of which it holds, in rising order.
pub record AreNumbers (atoms : List Tree) (Is : Tree → Type 0) (numbers : List ℕ) : Type 0 where
  pub rising : IsStrictlyIncreasing numbers
  pub members : (a : ℕ) → Contains numbers a ↔ IsSomeAnd (slice_get atoms a) Is

-- the term is the value of one of these
abbrev pub IsValueOf : Chosen → List Pattern → Tree → Type 0
IsValueOf chosen ps t = Any (λ p. value chosen p ≡ Some t) ps

-- A copy leaves this rule: its positive atoms are all known, and the negated atoms that aren't known are deleted.
pub record IsLeft (atoms : List Tree) (rule : CoreRule) (chosen : Chosen) (left : GroundRule) : Type 0 where
  pub kind : ground_kind rule.kind ≡ Some left.kind
  pub head : IsNumbered atoms (head_under chosen rule) left.head
  pub known : All (IsAmong atoms chosen) rule.conds.pos
  pub pos : AreNumbers atoms (IsValueOf chosen rule.conds.pos) left.pos
  pub neg : AreNumbers atoms (IsValueOf chosen rule.conds.neg) left.neg
  pub plain : left.aggs ≡ []

-- The rules that copies leave, as a set.
pub record AreLeft (atoms : List Tree) (rules : List CoreRule) (left : List GroundRule) : Type 0 where
  pub rising : IsStrictlySortedBy compare_rules left
  pub each : All (λ g. Any (λ rule. (chosen : Chosen) × IsCopy rule chosen × IsLeft atoms rule chosen g) rules) left
  pub every : All (λ rule. (chosen : Chosen) → IsCopy rule chosen → (kind : GroundKind) → ground_kind rule.kind ≡ Some kind → All (IsAmong atoms chosen) rule.conds.pos → Any (IsLeft atoms rule chosen) left) rules

-- The new atoms: those that are known and not in the base, in term order.
pub record AreNew (base : List Tree) (rules : List CoreRule) (names : List Tree) : Type 0 where
  pub rising : IsStrictlySortedBy compare_trees names
  pub members : (t : Tree) → Contains names t ↔ (IsKnown base rules t × (¬ Contains base t))

-- none has an aggregate
abbrev pub ArePlain : List CoreRule → Type 0
ArePlain rules = All (λ rule. rule.aggs ≡ []) rules

-- The ground module of the rules over the base, where the new atoms are these terms.
pub record IsModule (base : List Tree) (rules : List CoreRule) (names : List Tree) (m : GroundModule) : Type 0 where
  pub plain : ArePlain rules
  pub first : m.first_new ≡ length base
  pub fresh : m.fresh ≡ length names
  pub new : AreNew base rules names
  pub left : AreLeft (base ++ names) rules m.rules
  pub heads : AreNumbers (base ++ names) (IsHead rules) m.heads
  pub externals : AreNumbers (base ++ names) (IsExternal rules) m.externals
