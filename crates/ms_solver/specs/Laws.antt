-- What becomes of what a solver keeps as its join goes on.
-- Source: that learned nogoods stay as a program grows by composable modules is after Gebser, Kaminski, Kaufmann and
-- Schaub, "Multi-shot ASP solving with clingo" (2019), and Oikarinen and Janhunen, "Modular equivalence for normal logic
-- programs" (2006).
use Rattle.std.specs.Prelude.{ℕ, zero, suc, ◌≡◌, ◌⊎◌, ◌↔◌, ◌++◌, All, Bool, List, Option, Some}
use Rattle.ms_lits.specs.Literals.{Nogood}
use Rattle.ms_nogood.specs.Store.{Stored, nogood_at}
use Rattle.ms_nogood.specs.declared.kind.Kind.TheVariants.{Base, Kept}
use Rattle.ms_join.specs.declared.ground_module.GroundModule.{GroundModule}
use Rattle.ms_join.specs.declared.ground_rule.Input.{Input}
use Rattle.ms_join.specs.AnswerSets.{IsAnswerSet}
use Rattle.ms_join.specs.Modules.{Join, IsAssigned, IsJoin, IsReleased, rules_of}
use Rattle.ms_join.specs.Possible.{IsPossible}
use Rattle.ms_join.specs.Things.{Thing}
use Rattle.ms_things.specs.Completion.{IsCompletionNogood}
use Rattle.ms_things.specs.Consequences.{IsConsequence}
use Rattle.ms_things.specs.Numbers.{AreThings}
use Rattle.ms_solver.specs.States.{IsLasting, Joins, Knowledge, Serves}

-- Where an input is assigned, what serves the join serves the new one as it is.
abbrev pub AssignedIsServed : Type 0
AssignedIsServed = (s : Knowledge) (j assigned : Join) (a : ℕ) (value : Option Bool) → Serves s j → IsAssigned j a value assigned → IsJoin assigned → Serves s assigned

-- The set has the value of the input, unless that is free.
abbrev pub HasValue : (ℕ → Bool) → Input → Type 0
HasValue set i = (value : Bool) → i.value ≡ Some value → set i.atom ≡ value

-- The answer sets under the values of the inputs are the possible sets that have these.
abbrev pub ValuesAreAssumed : Type 0
ValuesAreAssumed = (j : Join) (set : ℕ → Bool) → IsJoin j → IsAnswerSet (rules_of j) set ↔ (IsPossible j set × All (HasValue set) j.inputs)

-- a completion nogood, of kind Base
abbrev pub IsOfProgram : Join → List Thing → Stored → Type 0
IsOfProgram j things stored = (stored.kind ≡ Some Base) × IsCompletionNogood j things stored.lits

-- a consequence over the things, of kind Kept
abbrev pub IsLearned : Join → List Thing → Stored → Type 0
IsLearned j things stored = (stored.kind ≡ Some Kept) × IsLasting j things stored.lits

-- Each nogood of the store is one of the program or learned.
abbrev pub StoredIsKnown : Type 0
StoredIsKnown =
    (s : Knowledge) (j : Join) (key : ℕ) (stored : Stored) → Serves s j → nogood_at s.store key ≡ Some stored
    → IsOfProgram j s.numbering.things stored ⊎ IsLearned j s.numbering.things stored

-- So it is a consequence: no set that is possible contains it, whatever the inputs are.
abbrev pub StoredIsConsequence : Type 0
StoredIsConsequence = (s : Knowledge) (j : Join) (key : ℕ) (stored : Stored) → Serves s j → nogood_at s.store key ≡ Some stored → IsConsequence j s.numbering.things stored.lits

-- a join, and its things by their numbers
pub record Moment : Type 0 where
  pub join : Join
  pub things : List Thing

-- A module is joined, whose things come last.
pub record Grows (old new : Moment) : Type 0 where
  pub join : IsJoin old.join
  pub are : AreThings old.join old.things
  pub m : GroundModule
  pub joins : Joins old.join m new.join
  pub more : List Thing
  pub things : new.things ≡ old.things ++ more

-- An input is released or assigned.
pub record Turns (old new : Moment) : Type 0 where
  pub input : ℕ
  pub value : Option Bool
  pub is : IsReleased old.join input new.join ⊎ IsAssigned old.join input value new.join
  pub things : new.things ≡ old.things

-- so many steps from one moment to a later one
unfoldable pub LeadsTo : ℕ → Moment → Moment → Type 0
LeadsTo zero old new = old ≡ new
LeadsTo (suc steps) old new = (mid : Moment) × LeadsTo steps old mid × (Grows mid new ⊎ Turns mid new)

-- What is a consequence at one moment is one at each later moment.
abbrev pub LearnedLasts : Type 0
LearnedLasts = (steps : ℕ) (old new : Moment) (nogood : Nogood) → LeadsTo steps old new → IsLasting old.join old.things nogood → IsLasting new.join new.things nogood
