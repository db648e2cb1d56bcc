-- What a solve says of a join.
use Rattle.std.specs.Prelude.{ℕ, ◌≡◌, ◌≢◌, ◌<◌, ◌∷◌, [], true, false, List, All, AllPairs, Contains, length, map}
use Rattle.ms_lits.specs.declared.lit.Lit.{Lit}
use Rattle.ms_lits.specs.declared.note.Note.{Note}
use Rattle.ms_lits.specs.declared.note.Note.TheVariants.{Start}
use Rattle.ms_lits.specs.declared.note.Ending.{Ending}
use Rattle.ms_lits.specs.declared.note.Ending.TheVariants.{Complete, StillOpen, Cut}
use Rattle.ms_lits.specs.Literals.{Nogood}
use Rattle.ms_join.specs.declared.assumption.AtomAsk.{AtomAsk}
use Rattle.ms_join.specs.Modules.{Join}
use Rattle.ms_join.specs.Things.{Thing}
use Rattle.ms_lawful.specs.Lines.{AreLines, EndsRun, answers_in, first_stage, stage_after}
use Rattle.ms_lawful.specs.Parts.{ComesBefore, kept_after, last_of, most_kept}
use Rattle.ms_complete.specs.Sets.{Match}
use Rattle.ms_search.specs.declared.ask.Ask.{Ask}
use Rattle.ms_search.specs.declared.ask.Run.{Run}
use Rattle.ms_problem.specs.Numbered.{numbers_in}
use Rattle.ms_problem.specs.Solves.{Demands, IsAskedFor, problem_of}
use Rattle.ms_solver.specs.Numbered.{IsLitOf}
use Rattle.ms_solver.specs.States.{Knowledge, Serves, kept_of}

-- As many as were asked for, or fewer.
abbrev pub EndsWith : ℕ → ℕ → Ending → Type 0
EndsWith asked found Complete = found < asked
EndsWith asked found StillOpen = found ≡ asked
EndsWith asked found Cut = found < asked

-- Answer sets that are asked for, no two equal. Where the run is complete, all of them are there. Where an atom outside
-- the base is assumed true, there is none.
pub record Lists (j : Join) (ask : AtomAsk) (run : Run) : Type 0 where
  pub members : All (IsAskedFor j ask) run.answers
  pub once : AllPairs (λ set later. set ≢ later) run.answers
  pub all : run.ending ≡ Complete → ask.impossible ≡ false → (set : List ℕ) → IsAskedFor j ask set → Contains run.answers set
  pub none : ask.impossible ≡ true → (run.answers ≡ []) × (run.ending ≡ Complete)
  pub ends : EndsWith ask.count (length run.answers) run.ending

-- What a search is asked for on behalf of a solve: as many answers with the same limit, over all things, and the literals
-- of what is assumed, in the order of a line.
pub record IsQuestion (things : List Thing) (numbers : List ℕ) (ask : AtomAsk) (question : Ask) : Type 0 where
  pub vars : question.vars ≡ length things
  pub count : question.count ≡ ask.count
  pub limit : question.limit ≡ ask.limit
  pub ordered : AllPairs ComesBefore question.assume
  pub says : Match (IsLitOf numbers) ask.assume question.assume
  pub impossible : question.impossible ≡ ask.impossible

-- The notes are a lawful log of the solve up to its last line, whose answers are those of the run.
pub record IsLog (j : Join) (things : List Thing) (numbers : List ℕ) (kept : List Nogood) (ask : AtomAsk) (run : Run) : Type 0 where
  pub start : List Lit
  pub demands : Demands things ask start
  pub lines : List Note
  pub notes : run.notes ≡ Start ask.impossible start ∷ lines
  pub lawful : AreLines (problem_of j things numbers kept ask start) first_stage lines
  pub ends : EndsRun (problem_of j things numbers kept ask start) (stage_after first_stage lines) run.ending
  pub answers : answers_in lines ≡ map (numbers_in things numbers) run.answers

-- What a solve of the join lists, logs and keeps. It serves the join still, under the same numbers.
pub record Solves (j : Join) (old : Knowledge) (ask : AtomAsk) (run : Run) (new : Knowledge) : Type 0 where
  pub lists : Lists j ask run
  pub log : IsLog j old.numbering.things old.atoms (last_of most_kept (kept_of old)) ask run
  pub kept : kept_of new ≡ kept_after (kept_of old) run.notes
  pub numbering : new.numbering ≡ old.numbering
  pub serves : Serves new j

-- It serves a join over which the assumptions are.
pub record CanSolve (s : Knowledge) (ask : AtomAsk) : Type 0 where
  pub join : Join
  pub serves : Serves s join
  pub within : All (λ given. given.atom < join.atoms) ask.assume
