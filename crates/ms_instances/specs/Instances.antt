-- What the copies of core rules say, and the ground module that they have over a base.
-- A ground instance is what is left of a rule under one choice of integers for its ranges.
use Rattle.std.specs.Prelude.{ℕ, ◌≡◌, ◌++◌, ◌⊎◌, ◌↔◌, List, [], Option, Some, None, All, Any, Contains, length, map, option_map, Bool, true}
use Rattle.std.specs.List.Sorted.{IsStrictlySortedBy}
use Rattle.ms_tree.specs.Tree.{Tree}
use Rattle.ms_tree.specs.Order.{compare_trees}
use Rattle.ms_term.specs.Terms.{term_at}
use Rattle.ms_core.specs.declared.rule.RuleKind.{RuleKind}
use Rattle.ms_core.specs.declared.rule.RuleKind.TheVariants.{Normal, Choice, Constraint, External}
use Rattle.ms_join.specs.declared.ground_rule.GroundRule.{GroundRule}
use Rattle.ms_join.specs.declared.ground_rule.GroundKind.{GroundKind}
use Rattle.ms_join.specs.declared.ground_module.GroundModule.{GroundModule}
use Rattle.ms_join.specs.Orders.{compare_rules}
use Rattle.ms_copies.specs.Grounding.{gives_head, gives_external}
use Rattle.ms_copies.specs.Simplifying.{ground_kind, IsNumbered, AreNumbers}
use Rattle.ms_instances.specs.declared.instance.Instance.{Instance}

-- what a copy says, by its terms
pub record Said : Type 0 where
  pub kind : RuleKind
  pub head : Option Tree
  pub pos : List Tree
  pub neg : List Tree

-- what an instance says, where these are the terms of a table
abbrev pub said_by : List Tree → Instance → Said
said_by table i = record { kind = i.kind; head = option_map (term_at table) i.head; pos = map (term_at table) i.pos; neg = map (term_at table) i.neg }

-- a constraint has no head, and each other kind has one
abbrev pub IsHeaded : RuleKind → Option ℕ → Type 0
IsHeaded Constraint head = head ≡ None
IsHeaded Normal head = (h : ℕ) × (head ≡ Some h)
IsHeaded Choice head = (h : ℕ) × (head ≡ Some h)
IsHeaded External head = (h : ℕ) × (head ≡ Some h)

abbrev pub IsHeadAmong : (RuleKind → Bool) → List Said → Tree → Type 0
IsHeadAmong is_kind said t = Any (λ s. (is_kind s.kind ≡ true) × (s.head ≡ Some t)) said

abbrev pub IsKnownBy : List Tree → List Said → Tree → Type 0
IsKnownBy base said t = Contains base t ⊎ (IsHeadAmong gives_head said t ⊎ IsHeadAmong gives_external said t)

-- A copy leaves this rule.
pub record Leaves (atoms : List Tree) (s : Said) (left : GroundRule) : Type 0 where
  pub kind : ground_kind s.kind ≡ Some left.kind
  pub head : IsNumbered atoms s.head left.head
  pub known : All (Contains atoms) s.pos
  pub pos : AreNumbers atoms (Contains s.pos) left.pos
  pub neg : AreNumbers atoms (Contains s.neg) left.neg
  pub plain : left.aggs ≡ []

pub record AreLeftBy (atoms : List Tree) (said : List Said) (left : List GroundRule) : Type 0 where
  pub rising : IsStrictlySortedBy compare_rules left
  pub each : All (λ g. Any (λ s. Leaves atoms s g) said) left
  pub every : All (λ s. (kind : GroundKind) → ground_kind s.kind ≡ Some kind → All (Contains atoms) s.pos → Any (Leaves atoms s) left) said

pub record AreNewBy (base : List Tree) (said : List Said) (names : List Tree) : Type 0 where
  pub rising : IsStrictlySortedBy compare_trees names
  pub members : (t : Tree) → Contains names t ↔ (IsKnownBy base said t × (¬ Contains base t))

-- The ground module of what copies say.
pub record IsModuleBy (base : List Tree) (said : List Said) (names : List Tree) (m : GroundModule) : Type 0 where
  pub first : m.first_new ≡ length base
  pub fresh : m.fresh ≡ length names
  pub new : AreNewBy base said names
  pub left : AreLeftBy (base ++ names) said m.rules
  pub heads : AreNumbers (base ++ names) (IsHeadAmong gives_head said) m.heads
  pub externals : AreNumbers (base ++ names) (IsHeadAmong gives_external said) m.externals
