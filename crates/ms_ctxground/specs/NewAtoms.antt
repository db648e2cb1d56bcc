-- The names of atoms, in term order.
use Rattle.std.specs.Prelude.{ℕ, ◌↔◌, ◌+◌, ◌≤◌, ◌⊎◌, List, Option, None, if◌then◌else◌, Bool, Contains, length, map}
use Rattle.std.specs.List.Sorted.{IsStrictlySortedBy}
use Rattle.ms_tree.specs.Tree.{Tree}
use Rattle.ms_tree.specs.Order.{compare_trees}
use Rattle.ms_term.specs.Terms.{term_at}
use Rattle.ms_core.specs.declared.rule.RuleKind.{RuleKind}
use Rattle.ms_instances.specs.declared.instance.Instance.{Instance}

-- the head of an instance of such a kind
abbrev pub head_of : (RuleKind → Bool) → Instance → Option ℕ
head_of is_kind i = if is_kind i.kind then i.head else None

-- The names that the base lacks are added.
pub record AreAdded (base names old new : List ℕ) : Type 0 where
  pub members : (n : ℕ) → Contains new n ↔ (Contains old n ⊎ (Contains names n × (¬ Contains base n)))
  pub few : length new ≤ length old + length names

-- The names of either list that the base lacks, in term order.
pub record IsNewOf (table : List Tree) (base outputs externals names : List ℕ) : Type 0 where
  pub rising : IsStrictlySortedBy compare_trees (map (term_at table) names)
  pub members : (n : ℕ) → Contains names n ↔ ((Contains outputs n ⊎ Contains externals n) × (¬ Contains base n))
  pub few : length names ≤ length outputs + length externals
