-- Taking a module, and declaring the things that it brings.
use Rattle.std.specs.Prelude.{ℕ, ◌≡◌, List, map}
use Rattle.ms_tree.specs.Tree.{Tree}
use Rattle.ms_term.specs.Terms.{term_at}
use Rattle.ms_lits.specs.declared.note.Note.{Note}
use Rattle.ms_join.specs.Modules.{Join}
use Rattle.ms_machine.specs.Logging.{LogsThings}
use Rattle.ms_solver.specs.States.{kept_of}
use Rattle.ms_session.specs.Fitting.{IsFit, Watcher}

-- The notes declare what the join has of things beyond the old ones, over this base. The solver fits the join, and what it
-- kept it keeps.
pub record DeclaresNew (table : List Tree) (base : List ℕ) (join : Join) (old new : Watcher) (notes : List Note) : Type 0 where
  pub logs : LogsThings join (map (term_at table) base) old.knows.numbering.things notes new.knows.numbering.things
  pub names : new.knows.numbering.names ≡ base
  pub fit : IsFit new join
  pub kept : kept_of new.knows ≡ kept_of old.knows
