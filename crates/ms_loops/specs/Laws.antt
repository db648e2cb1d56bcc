-- The law of completion and loops, first in words of sets alone and then of nogoods, and how the completion grows.
-- Source: Lin and Zhao, "ASSAT: computing answer sets of a logic program by SAT solvers" (2004); over nogoods, Gebser,
-- Kaufmann and Schaub, "Conflict-driven answer set solving: from theory to practice" (2012); modules after Oikarinen and
-- Janhunen, "Modular equivalence for normal logic programs" (2006).
use Rattle.std.specs.Prelude.{ℕ, ◌≡◌, ◌<◌, ◌↔◌, ◌⊎◌, ◌++◌, Bool, List, Option, All, length}
use Rattle.ms_lits.specs.Literals.{Nogood}
use Rattle.ms_join.specs.declared.ground_module.GroundModule.{GroundModule}
use Rattle.ms_join.specs.Composability.{IsComposable}
use Rattle.ms_join.specs.Modules.{Join, IsAssigned, IsJoin, IsJoined, IsReleased, IsWellFormed}
use Rattle.ms_join.specs.Possible.{IsPossible}
use Rattle.ms_join.specs.Things.{Thing}
use Rattle.ms_things.specs.Aggregates.{IsAggregateNogood}
use Rattle.ms_things.specs.Consequences.{IsConsequence}
use Rattle.ms_things.specs.Loops.{IsLoopNogood}
use Rattle.ms_things.specs.Completion.{IsCompletionNogood, IsNewCompletion}
use Rattle.ms_things.specs.Numbers.{AreThings, ext}
use Rattle.ms_loops.specs.Founded.{AgreesOnAtoms, ContainsNone, IsFoundedModel, IsOverBase}

-- A possible set has atoms of the base alone.
abbrev pub PossibleIsOverBase : Type 0
PossibleIsOverBase = (j : Join) (set : ℕ → Bool) → IsJoin j → IsPossible j set → IsOverBase j set

-- A set over the base is possible exactly where it is a founded model.
abbrev pub PossibleIsFounded : Type 0
PossibleIsFounded = (j : Join) (set : ℕ → Bool) → IsJoin j → IsOverBase j set → IsPossible j set ↔ IsFoundedModel j set

-- A set over the base is possible exactly where the truths of the things in it contain no nogood of the join.
abbrev pub CompletionAndLoops : Type 0
CompletionAndLoops =
    (j : Join) (things : List Thing) (set : ℕ → Bool) → IsJoin j → AreThings j things → IsOverBase j set
    → IsPossible j set ↔ ContainsNone j things (ext set things)

-- Truths of all things that contain no nogood of the join are those in the set of the atoms that are true, which is possible.
abbrev pub AssignmentsArePossible : Type 0
AssignmentsArePossible =
    (j : Join) (things : List Thing) (truths set : ℕ → Bool) → IsJoin j → AreThings j things → IsOverBase j set → AgreesOnAtoms things truths set
    → ContainsNone j things truths → IsPossible j set × ((k : ℕ) → k < length things → truths k ≡ ext set things k)

-- Each nogood of a join is one of its consequences.
abbrev pub NogoodsAreConsequences : Type 0
NogoodsAreConsequences =
    (j : Join) (things : List Thing) (nogood : Nogood)
    → IsCompletionNogood j things nogood ⊎ (IsLoopNogood j things nogood ⊎ IsAggregateNogood j things nogood) → IsConsequence j things nogood

-- A consequence over the things that there were is one of the join with a module.
abbrev pub ConsequencesStay : Type 0
ConsequencesStay =
    (old new : Join) (m : GroundModule) (things more : List Thing) (nogood : Nogood) → IsJoin old → IsWellFormed old.atoms m → IsComposable old m → IsJoined old m new
    → AreThings old things → All (λ lit. lit.var < length things) nogood → IsConsequence old things nogood → IsConsequence new (things ++ more) nogood

-- Releasing and assigning keep each consequence.
abbrev pub InputsKeepConsequences : Type 0
InputsKeepConsequences =
    (old new : Join) (a : ℕ) (value : Option Bool) (things : List Thing) (nogood : Nogood) → IsReleased old a new ⊎ IsAssigned old a value new
    → IsConsequence old things nogood → IsConsequence new things nogood

-- The completion nogoods of a join with a module are those that there were, and those that the module brings.
abbrev pub CompletionGrows : Type 0
CompletionGrows =
    (old new : Join) (m : GroundModule) (things more : List Thing) (nogood : Nogood) → IsJoin old → IsWellFormed old.atoms m → IsComposable old m → IsJoined old m new
    → AreThings old things → AreThings new (things ++ more)
    → IsCompletionNogood new (things ++ more) nogood ↔ (IsCompletionNogood old things nogood ⊎ IsNewCompletion m (things ++ more) more nogood)
