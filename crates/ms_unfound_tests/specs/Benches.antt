-- A search over a store, all of whose variables are atoms.
use Rattle.std.specs.Prelude.{ℕ, ◌<◌, List, All, Contains}
use Rattle.ms_nogood.specs.Store.{Store}
use Rattle.ms_nogood.specs.Propagation.{IsWithin}
use Rattle.ms_search.specs.Problems.{AreLasting}
use Rattle.ms_search.specs.Runs.{AreAttached, Resting, empty_trail}
use Rattle.ms_watch.specs.Watches.{Watching, AreInStep, is_attached, state_in}

-- A run may begin, over so many variables, with these atoms.
pub record IsBench (vars : ℕ) (atoms : List ℕ) (search : Resting Watching) (store : Store) : Type 0 where
  pub within : IsWithin store vars
  pub lasting : AreLasting store
  pub wired : AreAttached (λ key. is_attached (state_in search.propagation.keys key)) store
  pub in_step : AreInStep search.propagation store (empty_trail search.room)
  pub below : All (λ atom. atom < vars) atoms
  pub every : (var : ℕ) → var < vars → Contains atoms var
