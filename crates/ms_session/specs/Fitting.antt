-- When the solver of a session is one for its join.
use Rattle.std.specs.Prelude.{ℕ, ◌≡◌, ◌<◌, ◌≤◌, List, All, length}
use Rattle.ms_base.specs.Limits.{most_things}
use Rattle.ms_tree.specs.Tree.{Tree}
use Rattle.ms_core.specs.Texts.{Texts}
use Rattle.ms_join.specs.Modules.{Join}
use Rattle.ms_machine.specs.Machine.{State}
use Rattle.ms_search.specs.Runs.{AreAttached, empty_trail}
use Rattle.ms_solver.specs.States.{State as SolverState, Serves, kept_of}
use Rattle.ms_watch.specs.Watches.{Watching, AreInStep, is_attached, state_in as state_of_key}
use Rattle.ms_session.specs.Kept.{state_by}

-- a solver by watched literals
abbrev pub Watcher : Type 0
Watcher = SolverState Watching

-- The solver serves the join, and its watches are those of its store.
pub record IsFit (solver : Watcher) (join : Join) : Type 0 where
  pub serves : Serves solver.knows join
  pub attached : AreAttached (λ key. is_attached (state_of_key solver.search.propagation.keys key)) solver.knows.store
  pub in_step : AreInStep solver.search.propagation solver.knows.store (empty_trail solver.search.room)

-- the state of the machine, where the solver has told the things and keeps the nogoods
abbrev pub state_at : List Tree → Texts → List ℕ → Join → Watcher → State
state_at table texts base join solver = state_by table texts base join solver.knows.numbering.things (kept_of solver.knows)

-- What a session keeps true until it is sealed: each atom of the base has a name of the table, the join has the atoms of the
-- base, and the solver serves the join, with the names of the base.
pub record IsSound (table : List Tree) (base : List ℕ) (join : Join) (solver : Watcher) : Type 0 where
  pub named : All (λ t. t < length table) base
  pub counted : length base ≡ join.atoms
  pub few : join.atoms ≤ most_things
  pub fit : IsFit solver join
  pub names : solver.knows.numbering.names ≡ base

-- The one solver has told the same things as the other, under the same names, and keeps the same nogoods.
pub record IsToldAlike (old new : Watcher) : Type 0 where
  pub numbering : new.knows.numbering ≡ old.knows.numbering
  pub kept : kept_of new.knows ≡ kept_of old.knows
