-- Sets of atoms in which nothing is true for want of a rule that says so, and sets that contain no nogood of a join.
-- Source: Lin and Zhao, "ASSAT: computing answer sets of a logic program by SAT solvers" (2004); unfounded sets after
-- Van Gelder, Ross and Schlipf, "The well-founded semantics for general logic programs" (1991).
use Rattle.std.specs.Prelude.{ℕ, ◌≡◌, ◌<◌, Bool, false, IsTrue, List, Some, All, slice_get}
use Rattle.ms_lits.specs.Literals.{Nogood}
use Rattle.ms_join.specs.AnswerSets.{Allows, Keeps}
use Rattle.ms_join.specs.Modules.{Join}
use Rattle.ms_join.specs.Things.{Thing, body_holds, body_of}
use Rattle.ms_join.specs.Things.Thing.{atom}
use Rattle.ms_things.specs.Aggregates.{IsAggregateNogood}
use Rattle.ms_things.specs.Completion.{IsCompletionNogood}
use Rattle.ms_things.specs.Loops.{IsLoopNogood, IsWithinComponent, supports_from_outside}
use Rattle.ms_things.specs.Signs.{IsContainedIn}

-- Each atom of the set is one of the base.
abbrev pub IsOverBase : Join → (ℕ → Bool) → Type 0
IsOverBase j set = (a : ℕ) → IsTrue (set a) → a < j.atoms

-- Outputs within one component, one of which is in the set, though no rule whose body holds in the set supports them from
-- outside.
pub record IsUnfounded (j : Join) (set loop : ℕ → Bool) : Type 0 where
  pub among : IsWithinComponent j loop
  pub member : ℕ
  pub has : IsTrue (loop member)
  pub true_there : IsTrue (set member)
  pub unsupported : All (λ rule. IsTrue (supports_from_outside loop rule) → body_holds set (body_of rule) ≡ false) j.rules

-- The set keeps each normal rule and each constraint, and nothing in it is unfounded.
pub record IsFoundedModel (j : Join) (set : ℕ → Bool) : Type 0 where
  pub rules : All (λ rule. Keeps set set rule.kind rule) j.rules
  pub constraints : All (λ rule. Allows set rule.kind rule) j.rules
  pub founded : (loop : ℕ → Bool) → ¬ IsUnfounded j set loop

-- The atoms of the set are those whose numbers are true.
abbrev pub AgreesOnAtoms : List Thing → (ℕ → Bool) → (ℕ → Bool) → Type 0
AgreesOnAtoms things truths set = (a k : ℕ) → slice_get things k ≡ Some (atom a) → truths k ≡ set a

-- Under these truths of the things no nogood of the join is contained.
pub record ContainsNone (j : Join) (things : List Thing) (truths : ℕ → Bool) : Type 0 where
  pub completion : (nogood : Nogood) → IsCompletionNogood j things nogood → ¬ IsContainedIn truths nogood
  pub loops : (nogood : Nogood) → IsLoopNogood j things nogood → ¬ IsContainedIn truths nogood
  pub aggregates : (nogood : Nogood) → IsAggregateNogood j things nogood → ¬ IsContainedIn truths nogood
