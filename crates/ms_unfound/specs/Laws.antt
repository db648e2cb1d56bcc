-- What the theory's nogoods say of the join, and what becomes of them where an input is assigned or released and where the
-- completion takes a module.
use Rattle.std.specs.Prelude.{ℕ, ◌≡◌, ◌<◌, Bool, List, Option, Some, All, Contains, length, slice_get}
use Rattle.ms_lits.specs.declared.trail.Entry.{Entry}
use Rattle.ms_lits.specs.Literals.{Nogood}
use Rattle.ms_nogood.specs.Store.{Store}
use Rattle.ms_nogood.specs.Theories.{Agree, AreRising, IsTotal}
use Rattle.ms_join.specs.declared.ground_module.GroundModule.{GroundModule}
use Rattle.ms_join.specs.Modules.{Join, IsAssigned, IsInput, IsJoin, IsJoined, IsReleased, IsWellFormed}
use Rattle.ms_join.specs.Possible.{IsPossible}
use Rattle.ms_join.specs.Things.{Thing, body_of}
use Rattle.ms_join.specs.Things.Thing.{atom, body}
use Rattle.ms_things.specs.Completion.{IsCompletionNogood}
use Rattle.ms_things.specs.Loops.{IsLoopNogood}
use Rattle.ms_things.specs.Numbers.{AreThings, ext}
use Rattle.ms_things.specs.Signs.{IsContainedIn}
use Rattle.ms_loops.specs.Founded.{AgreesOnAtoms, IsOverBase}
use Rattle.ms_complete.specs.Completing.{CanTake, Completes}
use Rattle.ms_complete.specs.Numbering.{Numbering}
use Rattle.ms_unfound.specs.Loops.{IsGiven}
use Rattle.ms_unfound.specs.Parts.{Known}
use Rattle.ms_unfound.specs.Settled.{IsSettled}
use Rattle.ms_unfound.specs.Taking.{AreLoopsOf, Takes}

-- Truths of all things that are those of a settled trail and contain no completion nogood contain no loop nogood.
abbrev pub SettledIsFounded : Type 0
SettledIsFounded =
    (j : Join) (things : List Thing) (known : Known) (entries : List Entry) (truths : ℕ → Bool) → AreLoopsOf j things known → IsTotal known.vars entries truths → IsSettled known entries
    → ((nogood : Nogood) → IsCompletionNogood j things nogood → ¬ IsContainedIn truths nogood)
    → (nogood : Nogood) → IsLoopNogood j things nogood → ¬ IsContainedIn truths nogood

-- The literals of what is given are in rising order of their variables.
abbrev pub GivenRise : Type 0
GivenRise = (known : Known) (nogood : Nogood) → IsGiven known nogood → AreRising nogood

-- What gives the same as before gives the loop nogoods of the same joins.
abbrev pub SameKeepsLoops : Type 0
SameKeepsLoops = (j : Join) (things : List Thing) (old new : Known) → new.vars ≡ old.vars → Agree (IsGiven new) (IsGiven old) → AreLoopsOf j things old → AreLoopsOf j things new

-- These truths contain no completion nogood, and nothing that the theory gives.
pub record ContainsNoneOf (j : Join) (things : List Thing) (known : Known) (truths : ℕ → Bool) : Type 0 where
  pub completion : (nogood : Nogood) → IsCompletionNogood j things nogood → ¬ IsContainedIn truths nogood
  pub given : (nogood : Nogood) → IsGiven known nogood → ¬ IsContainedIn truths nogood

-- A set over the base is possible exactly where the truths of the things in it contain none of these nogoods.
pub record IsPossibleExactly (j : Join) (things : List Thing) (known : Known) (set : ℕ → Bool) : Type 0 where
  pub none : IsPossible j set → ContainsNoneOf j things known (ext set things)
  pub possible : ContainsNoneOf j things known (ext set things) → IsPossible j set

abbrev pub PossibleByGiven : Type 0
PossibleByGiven =
    (j : Join) (things : List Thing) (known : Known) (set : ℕ → Bool) → IsJoin j → AreThings j things → AreLoopsOf j things known → IsOverBase j set
    → IsPossibleExactly j things known set

-- Truths that contain none of them are those of a possible set: that of the atoms that are true.
abbrev pub AdmittedIsPossible : Type 0
AdmittedIsPossible =
    (j : Join) (things : List Thing) (known : Known) (truths set : ℕ → Bool) → IsJoin j → AreThings j things → AreLoopsOf j things known → IsOverBase j set
    → AgreesOnAtoms things truths set → ContainsNoneOf j things known truths → IsPossible j set × ((k : ℕ) → k < length things → truths k ≡ ext set things k)

-- Truths that contain none of them, and agree on all atoms, agree on all things.
abbrev pub AtomsDecide : Type 0
AtomsDecide =
    (j : Join) (things : List Thing) (known : Known) (truths others : ℕ → Bool) → IsJoin j → AreThings j things → AreLoopsOf j things known
    → ContainsNoneOf j things known truths → ContainsNoneOf j things known others
    → ((a k : ℕ) → slice_get things k ≡ Some (atom a) → truths k ≡ others k) → (k : ℕ) → k < length things → truths k ≡ others k

-- Assigning an input changes nothing of what is given.
abbrev pub AssignKeepsLoops : Type 0
AssignKeepsLoops =
    (j assigned : Join) (a : ℕ) (value : Option Bool) (things : List Thing) (known : Known) → IsAssigned j a value assigned → AreLoopsOf j things known
    → AreLoopsOf assigned things known

-- Nor does releasing one: the loop of the released atom is a completion nogood.
abbrev pub ReleaseKeepsLoops : Type 0
ReleaseKeepsLoops =
    (j released : Join) (a : ℕ) (things : List Thing) (known : Known) → IsJoin j → IsInput j a → IsReleased j a released → AreLoopsOf j things known
    → AreLoopsOf released things known

-- The completion that took a module has what the theory asks for.
pub record IsDeclaredFor (m : GroundModule) (things : List Thing) : Type 0 where
  pub heads : All (λ a. Contains things (atom a)) m.heads
  pub bodies : All (λ rule. Contains things (body (body_of rule))) m.rules

abbrev pub CompletionDeclares : Type 0
CompletionDeclares =
    (base : ℕ) (m : GroundModule) (old new : Numbering) (store after : Store) → IsWellFormed base m → Completes old m store new after → IsDeclaredFor m new.things

-- Where completion and theory take a module one after the other, what is given are the loop nogoods of the new join.
abbrev pub TakenWithCompletion : Type 0
TakenWithCompletion =
    (j joined : Join) (m : GroundModule) (old new : Numbering) (store after : Store) (known taken : Known) → CanTake j old.things store m → IsJoined j m joined
    → Completes old m store new after → AreLoopsOf j old.things known → Takes known m new.things taken → AreLoopsOf joined new.things taken
