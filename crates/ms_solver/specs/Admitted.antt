-- The assignments that a solve looks for are those of the answer sets that are asked for.
use Rattle.std.specs.Prelude.{ℕ, ◌≡◌, ◌<◌, Bool, false, List, All, length}
use Rattle.ms_lits.specs.declared.lit.Lit.{Lit}
use Rattle.ms_lits.specs.Literals.{Nogood}
use Rattle.ms_join.specs.declared.assumption.AtomAsk.{AtomAsk}
use Rattle.ms_join.specs.Modules.{Join, IsJoin}
use Rattle.ms_join.specs.Sets.{set_of}
use Rattle.ms_join.specs.Things.{Thing}
use Rattle.ms_things.specs.Numbers.{AreThings, ext}
use Rattle.ms_lawful.specs.Problems.{Problem, HasNoKept, IsAdmitted, MeetsStart, true_atoms}
use Rattle.ms_problem.specs.Numbered.{AreNumbers}
use Rattle.ms_problem.specs.Solves.{Demands, IsAskedFor, IsListed, problem_of}
use Rattle.ms_solver.specs.States.{IsLasting}

-- The things of a join, the numbers of its atoms, and the literals of what is assumed.
pub record Asks (j : Join) (things : List Thing) (numbers : List ℕ) (ask : AtomAsk) (start : List Lit) : Type 0 where
  pub join : IsJoin j
  pub are : AreThings j things
  pub numbered : AreNumbers things j.atoms numbers
  pub demands : Demands things ask start

-- The true atoms of an admitted assignment that has what is demanded are the numbers of a set that is asked for.
abbrev pub AdmittedAreAsked : Type 0
AdmittedAreAsked =
    (j : Join) (things : List Thing) (numbers : List ℕ) (ask : AtomAsk) (start : List Lit) (kept : List Nogood) (truth : ℕ → Bool) → Asks j things numbers ask start
    → IsAdmitted (problem_of j things numbers kept ask start) truth → MeetsStart (problem_of j things numbers kept ask start) truth
    → IsListed j things numbers ask (true_atoms (problem_of j things numbers kept ask start) truth)

-- The assignment is admitted, has what is demanded, and contains nothing that is kept.
pub record IsFound (problem : Problem) (truth : ℕ → Bool) : Type 0 where
  pub admitted : IsAdmitted problem truth
  pub meets : MeetsStart problem truth
  pub none_kept : HasNoKept problem truth

-- The truths of the things in a set that is asked for are such an assignment, where what is kept are consequences.
abbrev pub AskedAreFound : Type 0
AskedAreFound =
    (j : Join) (things : List Thing) (numbers : List ℕ) (ask : AtomAsk) (start : List Lit) (kept : List Nogood) (set : List ℕ) → Asks j things numbers ask start
    → ask.impossible ≡ false → All (IsLasting j things) kept → IsAskedFor j ask set → IsFound (problem_of j things numbers kept ask start) (ext (set_of set) things)

-- Admitted assignments with the same true atoms agree on all things.
abbrev pub AtomsDecide : Type 0
AtomsDecide =
    (j : Join) (things : List Thing) (numbers : List ℕ) (ask : AtomAsk) (start : List Lit) (kept : List Nogood) (truth other : ℕ → Bool) → Asks j things numbers ask start
    → IsAdmitted (problem_of j things numbers kept ask start) truth → IsAdmitted (problem_of j things numbers kept ask start) other
    → true_atoms (problem_of j things numbers kept ask start) truth ≡ true_atoms (problem_of j things numbers kept ask start) other
    → (k : ℕ) → k < length things → truth k ≡ other k
