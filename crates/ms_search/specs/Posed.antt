-- The problem that a store and a theory pose, and what a run tells of it.
use Rattle.std.specs.Prelude.{ℕ, ◌≡◌, ◌≢◌, ◌∷◌, [], Bool, true, All, AllPairs, Contains}
use Rattle.ms_lits.specs.declared.note.Note.TheVariants.{Start}
use Rattle.ms_lits.specs.declared.note.Ending.TheVariants.{Complete}
use Rattle.ms_lits.specs.Literals.{Nogood}
use Rattle.ms_nogood.specs.Store.{Store}
use Rattle.ms_nogood.specs.Theories.{Agree}
use Rattle.ms_lawful.specs.Problems.{Problem, HasNoKept, IsAdmitted, MeetsStart, true_atoms}
use Rattle.ms_lawful.specs.Parts.{last_of, most_kept}
use Rattle.ms_search.specs.declared.ask.Run.{Run}
use Rattle.ms_search.specs.Problems.{IsBase, kept_nogoods}

-- The problem has the nogoods of the store with the kind Base, those that a theory gives, and the last kept ones.
pub record IsPosed (problem : Problem) (gives : Nogood → Type 0) (store : Store) : Type 0 where
  pub base : Agree problem.Base (IsBase store)
  pub given : Agree problem.Gives gives
  pub kept : problem.kept ≡ last_of most_kept (kept_nogoods store)

-- The run has no line but the first, and lists nothing.
pub record IsIdle (problem : Problem) (run : Run) : Type 0 where
  pub complete : run.ending ≡ Complete
  pub notes : run.notes ≡ Start problem.impossible problem.start ∷ []
  pub answers : run.answers ≡ []

-- The answers may be listed, and no two are equal. Where the run is complete, the atoms of each admitted assignment that
-- meets what is demanded, and contains nothing that was kept, are among them. Where something is demanded that no answer
-- has, nothing is done.
pub record Lists (problem : Problem) (run : Run) : Type 0 where
  pub members : All problem.Member run.answers
  pub once : AllPairs (λ answer later. answer ≢ later) run.answers
  pub all : run.ending ≡ Complete → (truth : ℕ → Bool) → IsAdmitted problem truth → HasNoKept problem truth → MeetsStart problem truth → Contains run.answers (true_atoms problem truth)
  pub idle : problem.impossible ≡ true → IsIdle problem run
