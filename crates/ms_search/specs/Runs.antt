-- What a run of the search comes to, and what it leaves.
use Rattle.std.specs.Prelude.{ℕ, ◌≡◌, ◌⊎◌, ◌++◌, ◌∷◌, [], Bool, true, List, Some, None, Contains, is_some}
use Rattle.ms_lits.specs.declared.note.Note.{Note}
use Rattle.ms_lits.specs.declared.note.Note.TheVariants.{Start}
use Rattle.ms_lits.specs.Assignment.{Assignment}
use Rattle.ms_nogood.specs.Store.{Store, Stored, Trims, slot_at}
use Rattle.ms_nogood.specs.declared.kind.Kind.TheVariants.{Base}
use Rattle.ms_lawful.specs.Problems.{Problem}
use Rattle.ms_lawful.specs.Lines.{AreLines, EndsRun, answers_in, first_stage, stage_after}
use Rattle.ms_lawful.specs.Parts.{kept_in, most_kept}
use Rattle.ms_search.specs.declared.ask.Run.{Run}
use Rattle.ms_search.specs.Problems.{kept_nogoods}

-- A search between its runs: its way of propagating, and the room of its empty trail.
pub record Resting (P : Type 0) : Type 0 where
  pub propagation : P
  pub room : ℕ

abbrev pub empty_trail : ℕ → Assignment
empty_trail room = record { entries = []; level = 0; room = room }

-- Each attached key has a nogood, asleep or not, and each other key that has one is fresh.
pub record AreAttached (attached : ℕ → Bool) (store : Store) : Type 0 where
  pub known : (key : ℕ) → attached key ≡ true → is_some (slot_at store key) ≡ true
  pub fresh : (key : ℕ) → is_some (slot_at store key) ≡ true → (attached key ≡ true) ⊎ Contains store.fresh key

-- The store begins a run: kept nogoods that are too many are dropped, and no key is fresh.
pub record Begins (old new : Store) : Type 0 where
  pub trims : Trims old (record new { fresh = old.fresh }) most_kept
  pub fresh : new.fresh ≡ []

-- The notes are a lawful log up to its last line: they begin with what is demanded, lawful lines follow, after which
-- the solve may end so, and the answers are those of the lines.
pub record IsRun (problem : Problem) (run : Run) : Type 0 where
  pub lines : List Note
  pub notes : run.notes ≡ Start problem.impossible problem.start ∷ lines
  pub lawful : AreLines problem first_stage lines
  pub ends : EndsRun problem (stage_after first_stage lines) run.ending
  pub answers : run.answers ≡ answers_in lines

-- The store has lost only kept nogoods that were too many, and gained the kept ones of the notes.
pub record Leaves (problem : Problem) (notes : List Note) (old new : Store) : Type 0 where
  pub kept : kept_nogoods new ≡ problem.kept ++ kept_in notes
  pub base : (key : ℕ) (stored : Stored) → (stored.kind ≡ None) ⊎ (stored.kind ≡ Some Base) → slot_at old key ≡ Some stored → slot_at new key ≡ Some stored
  pub no_more : (key : ℕ) (stored : Stored) → (stored.kind ≡ None) ⊎ (stored.kind ≡ Some Base) → slot_at new key ≡ Some stored → slot_at old key ≡ Some stored
