-- What a solve of a join is about. The values of inputs are assumptions of the solve, so that what it learns holds
-- whatever they are.
-- Source: after Gebser, Kaminski, Kaufmann and Schaub, "Multi-shot ASP solving with clingo" (2019), where externals are
-- assumptions of a solve.
use Rattle.std.specs.Prelude.{ℕ, ◌≡◌, List, All, AllPairs, Any, length}
use Rattle.ms_lits.specs.declared.lit.Lit.{Lit}
use Rattle.ms_lits.specs.Literals.{Nogood}
use Rattle.ms_join.specs.declared.assumption.AtomAsk.{AtomAsk}
use Rattle.ms_join.specs.Assumptions.{IsMeetingAnswer}
use Rattle.ms_join.specs.Modules.{Join}
use Rattle.ms_join.specs.Possible.{freed}
use Rattle.ms_join.specs.Things.{Thing}
use Rattle.ms_things.specs.Completion.{IsCompletionNogood}
use Rattle.ms_things.specs.Loops.{IsLoopNogood}
use Rattle.ms_things.specs.Signs.{IsFor}
use Rattle.ms_lawful.specs.Problems.{Problem}
use Rattle.ms_lawful.specs.Parts.{ComesBefore}
use Rattle.ms_problem.specs.Numbered.{numbers_in, said}

-- The set is an answer set of the join where each input is free, and has what is assumed.
abbrev pub IsAskedFor : Join → AtomAsk → List ℕ → Type 0
IsAskedFor j ask set = IsMeetingAnswer j.atoms (record { rules = j.rules; inputs = freed j.inputs }) ask.assume set

-- The literals are those of what is assumed, each once, in the order of a line.
pub record Demands (things : List Thing) (ask : AtomAsk) (start : List Lit) : Type 0 where
  pub ordered : AllPairs ComesBefore start
  pub each : All (λ lit. Any (λ s. IsFor things (said s) lit) ask.assume) start
  pub all : All (λ s. Any (IsFor things (said s)) start) ask.assume

-- The numbers of the true atoms of a set that is asked for.
pub record IsListed (j : Join) (things : List Thing) (numbers : List ℕ) (ask : AtomAsk) (answer : List ℕ) : Type 0 where
  pub set : List ℕ
  pub asked : IsAskedFor j ask set
  pub same : numbers_in things numbers set ≡ answer

-- The completion and the loops of the join, what is kept from earlier solves, and what is demanded.
abbrev pub problem_of : Join → List Thing → List ℕ → List Nogood → AtomAsk → List Lit → Problem
problem_of j things numbers kept ask start = record {
  Base = IsCompletionNogood j things;
  Gives = IsLoopNogood j things;
  Member = IsListed j things numbers ask;
  things = length things;
  atoms = numbers;
  kept = kept;
  impossible = ask.impossible;
  start = start;
  asked = ask.count;
  limit = ask.limit;
}
