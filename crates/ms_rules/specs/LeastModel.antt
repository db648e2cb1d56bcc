-- The least model of a reduct, as a fixed point.
use Rattle.std.specs.Prelude.{ℕ, ◌≡◌, ◌<◌, Bool, true, false, not, IsTrue, All, List, Option, Some, None, count_by, ⊤}
use Rattle.ms_join.specs.declared.ground_rule.GroundRule.{GroundRule}
use Rattle.ms_join.specs.declared.ground_rule.Input.{Input}
use Rattle.ms_join.specs.declared.ground_rule.Rules.{Rules}
use Rattle.ms_join.specs.declared.ground_rule.GroundKind.{GroundKind}
use Rattle.ms_join.specs.declared.ground_rule.GroundKind.TheVariants.{Normal, Choice, Constraint}
use Rattle.ms_join.specs.AnswerSets.{has_all, side_holds, IsReductModel, Keeps, KeepsInput}
use Rattle.ms_rules.specs.declared.least_model.Progress.{Progress}
use Rattle.ms_rules.specs.declared.least_model.Progress.TheVariants.{Still, Marked, Outside}
use Rattle.ms_rules.specs.Flags.{flag_at}

-- a normal rule may ask for its head, and a choice for one in the set `by`
abbrev pub MayAsk : (ℕ → Bool) → GroundKind → ℕ → Type 0
MayAsk by Normal a = ⊤
MayAsk by Choice a = IsTrue (by a)
MayAsk by Constraint a = ⊥

-- In the reduct by the set `by`, the rule asks for the atom, which the set `of` lacks.
pub record AsksFor (by of : ℕ → Bool) (rule : GroundRule) (a : ℕ) : Type 0 where
  pub kind : MayAsk by rule.kind a
  pub side : IsTrue (side_holds by rule)
  pub pos : IsTrue (has_all of rule.pos)
  pub head : rule.head ≡ Some a
  pub lacks : of a ≡ false

-- A true input is a fact of the reduct by the set `by`, and a free one that is in this set.
abbrev pub IsFact : (ℕ → Bool) → ℕ → Option Bool → Type 0
IsFact by a (Some true) = ⊤
IsFact by a (Some false) = ⊥
IsFact by a None = IsTrue (by a)

-- The set `of` has the inputs that are facts, and is contained in each set that has them.
pub record AreMarked (inputs : List Input) (by of : ℕ → Bool) : Type 0 where
  pub kept : All (λ i. KeepsInput by of i.atom i.value) inputs
  pub least : (other : ℕ → Bool) → All (λ i. KeepsInput by other i.atom i.value) inputs → (a : ℕ) → IsTrue (of a) → IsTrue (other a)

-- Each model of the reduct by the set `by` contains the set `of`.
pub record IsWithinModels (join : Rules) (by of : ℕ → Bool) : Type 0 where
  pub within : (other : ℕ → Bool) → IsReductModel join by other → (a : ℕ) → IsTrue (of a) → IsTrue (other a)

-- The set `of` has the inputs that are facts, and is within the models.
pub record IsMarking (join : Rules) (by of : ℕ → Bool) : Type 0 where
  pub inputs : All (λ i. KeepsInput by of i.atom i.value) join.inputs
  pub within : IsWithinModels join by of

pub record IsLeastModel (join : Rules) (by of : ℕ → Bool) : Type 0 where
  pub model : IsReductModel join by of
  pub least : IsWithinModels join by of

-- how many flags are not set
abbrev pub unmarked_count : List Bool → ℕ
unmarked_count flags = count_by not flags

-- What a pass over the rules did: nothing was to be marked, or something was, or the set is no model of
-- the reduct by itself.
abbrev pub Progresses : Progress → Rules → List Bool → List Bool → List Bool → Type 0
Progresses Still join in_set old new = All (λ rule. Keeps (flag_at in_set) (flag_at new) rule.kind rule) join.rules
Progresses Marked join in_set old new = unmarked_count new < unmarked_count old
Progresses Outside join in_set old new = ¬ (IsReductModel join (flag_at in_set) (flag_at in_set))
