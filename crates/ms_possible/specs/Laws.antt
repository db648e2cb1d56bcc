-- The laws of what is possible for a join, whatever its inputs are set to.
use Rattle.std.specs.Prelude.{ℕ, ◌↔◌, Bool, Option}
use Rattle.ms_join.specs.declared.ground_module.GroundModule.{GroundModule}
use Rattle.ms_join.specs.AnswerSets.{AreRulesOver, IsAnswerSet}
use Rattle.ms_join.specs.Composability.{IsComposable}
use Rattle.ms_join.specs.Modules.{Join, IsAssigned, IsJoined, IsReleased, IsWellFormed, rules_of}
use Rattle.ms_join.specs.Possible.{IsAnswerUnder, IsPossible, cut}

-- A set is possible exactly where there are values of the inputs under which it is an answer set.
abbrev pub PossibleByValues : Type 0
PossibleByValues = (j : Join) (set : ℕ → Bool) → IsPossible j set ↔ ((values : ℕ → Bool) × IsAnswerUnder j values set)

-- An answer set under the present values of the inputs is possible.
abbrev pub AnswersArePossible : Type 0
AnswersArePossible = (j : Join) (set : ℕ → Bool) → IsAnswerSet (rules_of j) set → IsPossible j set

-- What is possible for a join with a module was possible before, for the atoms that were there.
abbrev pub JoinedKeepsThePast : Type 0
JoinedKeepsThePast =
    (old new : Join) (m : GroundModule) (set : ℕ → Bool) → AreRulesOver old.atoms (rules_of old) → IsWellFormed old.atoms m → IsComposable old m → IsJoined old m new
    → IsPossible new set → IsPossible old (cut old.atoms set)

-- What is possible after a release was possible before it.
abbrev pub ReleasedKeepsThePast : Type 0
ReleasedKeepsThePast = (old new : Join) (a : ℕ) (set : ℕ → Bool) → IsReleased old a new → IsPossible new set → IsPossible old set

-- Assigning changes nothing of what is possible.
abbrev pub AssignedKeepsThePossible : Type 0
AssignedKeepsThePossible = (old new : Join) (a : ℕ) (value : Option Bool) (set : ℕ → Bool) → IsAssigned old a value new → IsPossible old set ↔ IsPossible new set
