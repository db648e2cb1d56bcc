-- What is evaluated under the names of a table that grows.
use Rattle.std.specs.Prelude.{ℕ, ◌≡◌, ◌<◌, ◌≤◌, ◌++◌, Bool, List, Option, Some, None, All, IfSome, MatchOption, length, map, option_map, ⊤}
use Rattle.ms_tree.specs.Tree.{Tree}
use Rattle.ms_term.specs.Terms.{term_at}
use Rattle.ms_copies.specs.Limits.{most_copies}
use Rattle.ms_core.specs.declared.rule.RuleKind.{RuleKind}
use Rattle.ms_core.specs.declared.rule.RuleKind.TheVariants.{Normal, Choice, Constraint, External}
use Rattle.ms_core.specs.declared.pattern.Pattern.{Pattern}
use Rattle.ms_core.specs.declared.rule.CoreRule.{CoreRule}
use Rattle.ms_value.specs.Naming.{Keeps}
use Rattle.ms_instances.specs.declared.fault.InstanceFault.{InstanceFault}
use Rattle.ms_instances.specs.declared.fault.InstanceFault.TheVariants.{TooMany, OutOfMemory}
use Rattle.ms_instances.specs.declared.instance.Instance.{Instance}
use Rattle.ms_instances.specs.Instances.{Said, said_by, IsHeaded}

-- The answer of a test, which keeps the names of a table.
pub record Tells (old new : List Tree) (answer said : Bool) : Type 0 where
  pub keeps : Keeps old new
  pub is : answer ≡ said

-- The name of a head's value, or none exactly where it has none.
pub record GivesHead (old new : List Tree) (v : Option (Option Tree)) (head : Option (Option ℕ)) : Type 0 where
  pub keeps : Keeps old new
  pub named : MatchOption head (v ≡ None) (λ h. IfSome h (λ i. i < length new) × (v ≡ Some (option_map (term_at new) h)))

-- Each name of the instance is among the first ones.
pub record IsNamed (count : ℕ) (i : Instance) : Type 0 where
  pub head : IfSome i.head (λ h. h < count)
  pub pos : All (λ t. t < count) i.pos
  pub neg : All (λ t. t < count) i.neg

-- The instance of what is said, or none exactly where nothing is said.
pub record GivesInstance (old new : List Tree) (said : Option Said) (instance : Option Instance) : Type 0 where
  pub keeps : Keeps old new
  pub named : MatchOption instance (said ≡ None) (λ i. IsNamed (length new) i × (said ≡ Some (said_by new i)))

-- The instances, by names of the table, say this.
pub record Say (table : List Tree) (list : List Instance) (said : List Said) : Type 0 where
  pub named : All (IsNamed (length table)) list
  pub few : length list ≤ most_copies
  pub say : map (said_by table) list ≡ said

-- The rule has a head exactly where it is no constraint.
abbrev pub IsHeadedRule : RuleKind → Option Pattern → Type 0
IsHeadedRule Constraint head = head ≡ None
IsHeadedRule Normal head = (h : Pattern) × (head ≡ Some h)
IsHeadedRule Choice head = (h : Pattern) × (head ≡ Some h)
IsHeadedRule External head = (h : Pattern) × (head ≡ Some h)

-- The instances of rules: the names of the old table stay.
pub record AreInstances (old new : List Tree) (rules : List CoreRule) (said : List Said) (list : List Instance) : Type 0 where
  pub keeps : Keeps old new
  pub are : Say new list said
  pub headed : All (λ r. IsHeadedRule r.kind r.head) rules → All (λ i. IsHeaded i.kind i.head) list

-- Instances that say this come after the others.
pub record Adds (old : List Tree) (before : List Instance) (new : List Tree) (after : List Instance) (said : List Said) : Type 0 where
  pub keeps : Keeps old new
  pub named : All (IsNamed (length new)) after
  pub few : length after ≤ most_copies
  pub say : map (said_by new) after ≡ map (said_by old) before ++ said

-- Where there are too many, there are more than there may be, and the table keeps its names.
abbrev pub Refuses : List Tree → List Tree → ℕ → InstanceFault → Type 0
Refuses old new count TooMany = Keeps old new × (most_copies < count)
Refuses old new count OutOfMemory = ⊤
