-- The lawful lines of one solve. The log has a line for each nogood that a theory gave, that was learned and is kept,
-- or that was learned for this solve alone, and one for each answer, which a learned nogood of its own follows.
-- Source: that learned nogoods are checked by unit closure is after Goldberg and Novikov, "Verification of proofs of
-- unsatisfiability for CNF formulas" (2003); answers whose nogoods bind the rest of a solve alone, and the rules that
-- no line repeats what stands, are this project's.
use Rattle.std.specs.Prelude.{ℕ, ◌≡◌, ◌≢◌, ◌+◌, ◌<◌, ◌≤◌, ◌⊎◌, ◌++◌, Bool, true, false, IsTrue, List, [], ◌∷◌, length, Option, Some, None, All, AllPairs, Contains, filter, filter_map}
use Rattle.ms_lits.specs.declared.note.Note.{Note}
use Rattle.ms_lits.specs.declared.note.Note.TheVariants.{Theory, Kept, Temporary, Answer}
use Rattle.ms_lits.specs.declared.note.Ending.{Ending}
use Rattle.ms_lits.specs.declared.note.Ending.TheVariants.{Complete, StillOpen, Cut}
use Rattle.ms_lits.specs.Literals.{Nogood, IsContained, IsNew, IsRefuted}
use Rattle.ms_lawful.specs.Problems.{Problem, IsAdmitted, HasNogood, true_atoms, signs_of_atoms}

-- The lines of a solve so far, the answer whose own line has to come next, and how many nogoods were learned beside
-- the answers' own.
pub record Stage : Type 0 where
  pub lines : List Note
  pub owed : Option (List ℕ)
  pub spent : ℕ

-- before the first line
abbrev pub first_stage : Stage
first_stage = record { lines = []; owed = None; spent = 0 }

-- an answer's own line isn't counted
abbrev pub spent_for : Option (List ℕ) → ℕ
spent_for None = 1
spent_for (Some answer) = 0

abbrev pub spent_by : Option (List ℕ) → Note → ℕ
spent_by owed (Kept nogood) = 1
spent_by owed (Temporary nogood) = spent_for owed
spent_by owed note = 0

abbrev pub owed_after : Note → Option (List ℕ)
owed_after (Answer answer) = Some answer
owed_after note = None

abbrev pub after : Stage → Note → Stage
after stage note = record { lines = stage.lines ++ note ∷ []; owed = owed_after note; spent = stage.spent + spent_by stage.owed note }

abbrev pub stage_after : Stage → List Note → Stage
stage_after stage [] = stage
stage_after stage (note ∷ notes) = stage_after (after stage note) notes

-- the answer that a line tells of
abbrev pub answer_of : Note → Option (List ℕ)
answer_of (Answer answer) = Some answer
answer_of note = None

abbrev pub answers_in : List Note → List (List ℕ)
answers_in lines = filter_map answer_of lines

-- the nogood of a line, if it has one
abbrev pub nogood_of : Note → Option Nogood
nogood_of (Theory nogood) = Some nogood
nogood_of (Kept nogood) = Some nogood
nogood_of (Temporary nogood) = Some nogood
nogood_of note = None

abbrev pub nogoods_in : List Note → List Nogood
nogoods_in lines = filter_map nogood_of lines

-- the line has a nogood that was learned
abbrev pub is_learned : Note → Bool
is_learned (Kept nogood) = true
is_learned (Temporary nogood) = true
is_learned note = false

abbrev pub learned_in : List Note → List Note
learned_in lines = filter is_learned lines

-- The store: completion nogoods, those kept from earlier solves, and those of this solve that aren't temporary.
pub data InStore (problem : Problem) (lines : List Note) (nogood : Nogood) : Type 0 where
  of_completion : problem.Base nogood → InStore problem lines nogood
  kept_before : Contains problem.kept nogood → InStore problem lines nogood
  of_theory : Contains lines (Theory nogood) → InStore problem lines nogood
  kept_now : Contains lines (Kept nogood) → InStore problem lines nogood

-- What stands in the way of a new line: the store, and the temporary nogoods.
pub data Stands (problem : Problem) (lines : List Note) (nogood : Nogood) : Type 0 where
  stored : InStore problem lines nogood → Stands problem lines nogood
  temporary : Contains lines (Temporary nogood) → Stands problem lines nogood

-- All atoms with the signs that they have in an answer so far.
pub record IsOfAnswer (problem : Problem) (lines : List Note) (nogood : Nogood) : Type 0 where
  pub truth : ℕ → Bool
  pub answered : Contains lines (Answer (true_atoms problem truth))
  pub signs : nogood ≡ signs_of_atoms problem truth

-- The full store: what stands, and the answers so far.
pub data InFullStore (problem : Problem) (lines : List Note) (nogood : Nogood) : Type 0 where
  standing : Stands problem lines nogood → InFullStore problem lines nogood
  of_answer : IsOfAnswer problem lines nogood → InFullStore problem lines nogood

-- The literals are of things that there are, in rising order, and so of each thing at most one.
pub record IsInOrder (things : ℕ) (nogood : Nogood) : Type 0 where
  pub within : All (λ lit. lit.var < things) nogood
  pub rising : AllPairs (λ lit later. lit.var < later.var) nogood

-- A nogood may be a line: it is in order and contains none that stands.
pub record IsFresh (problem : Problem) (lines : List Note) (nogood : Nogood) : Type 0 where
  pub ordered : IsInOrder problem.things nogood
  pub contains_none : (small : Nogood) → Stands problem lines small → ¬ IsContained nogood small

-- A theory gives this nogood.
pub record IsTheoryLine (problem : Problem) (lines : List Note) (nogood : Nogood) : Type 0 where
  pub fresh : IsFresh problem lines nogood
  pub given : problem.Gives nogood

-- The nogood is refuted with the store and brings something new.
pub record IsKeptLine (problem : Problem) (lines : List Note) (nogood : Nogood) : Type 0 where
  pub fresh : IsFresh problem lines nogood
  pub refuted : IsRefuted (InStore problem lines) nogood
  pub is_new : IsNew (Stands problem lines) nogood

-- The same with the full store, after an answer.
pub record IsTemporaryLine (problem : Problem) (lines : List Note) (nogood : Nogood) : Type 0 where
  pub fresh : IsFresh problem lines nogood
  pub refuted : IsRefuted (InFullStore problem lines) nogood
  pub is_new : IsNew (Stands problem lines) nogood
  pub answered : answers_in lines ≢ []

-- The nogood is an answer's own: it is refuted with the full store, and the answer contains it.
pub record IsOwnLine (problem : Problem) (lines : List Note) (answer : List ℕ) (nogood : Nogood) : Type 0 where
  pub fresh : IsFresh problem lines nogood
  pub refuted : IsRefuted (InFullStore problem lines) nogood
  pub truth : ℕ → Bool
  pub admitted : IsAdmitted problem truth
  pub answers : true_atoms problem truth ≡ answer
  pub contained : HasNogood truth nogood

-- The atoms are those that are true in an assignment, may be listed, and weren't yet.
pub record IsAnswerLine (problem : Problem) (lines : List Note) (answer : List ℕ) : Type 0 where
  pub truth : ℕ → Bool
  pub answers : true_atoms problem truth ≡ answer
  pub member : problem.Member answer
  pub differs : ¬ Contains lines (Answer answer)

-- These lines may be followed by this one, where an answer's own line is owed or none.
abbrev pub MayFollow : Problem → List Note → Option (List ℕ) → Note → Type 0
MayFollow problem lines (Some answer) (Temporary nogood) = IsOwnLine problem lines answer nogood
MayFollow problem lines (Some answer) note = ⊥
MayFollow problem lines None (Theory nogood) = IsTheoryLine problem lines nogood
MayFollow problem lines None (Kept nogood) = IsKeptLine problem lines nogood
MayFollow problem lines None (Temporary nogood) = IsTemporaryLine problem lines nogood
MayFollow problem lines None (Answer answer) = IsAnswerLine problem lines answer
MayFollow problem lines None note = ⊥

abbrev pub IsLine : Problem → Stage → Note → Type 0
IsLine problem stage note = MayFollow problem stage.lines stage.owed note

-- Each of the notes is a lawful line after those before it.
abbrev pub AreLines : Problem → Stage → List Note → Type 0
AreLines problem stage [] = Unit {0}
AreLines problem stage (note ∷ notes) = IsLine problem stage note × AreLines problem (after stage note) notes

-- Complete: the demanded literals are refuted with the full store, or an impossible atom is assumed true. Open: as many
-- answers as were asked for. Cut: as many learned nogoods as the limit allows.
abbrev pub EndsFor : Problem → Stage → Ending → Type 0
EndsFor problem stage Complete = (length (answers_in stage.lines) < problem.asked) × (IsTrue problem.impossible ⊎ IsRefuted (InFullStore problem stage.lines) problem.start)
EndsFor problem stage StillOpen = length (answers_in stage.lines) ≡ problem.asked
EndsFor problem stage Cut = (length (answers_in stage.lines) < problem.asked) × (stage.spent ≡ problem.limit)

-- The solve may end here.
pub record EndsRun (problem : Problem) (stage : Stage) (ending : Ending) : Type 0 where
  pub nothing_owed : stage.owed ≡ None
  pub within : stage.spent ≤ problem.limit
  pub reason : EndsFor problem stage ending
