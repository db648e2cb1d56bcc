-- What taking a module does to what a solver keeps.
use Rattle.std.specs.Prelude.{ℕ, ◌≡◌, ◌⊎◌, ◌≤◌, ◌<◌, ◌++◌, ◌∷◌, [], List, Option, Some, None, Contains, length, slice_get}
use Rattle.ms_nogood.specs.Store.{Store, Stored, slot_at}
use Rattle.ms_nogood.specs.declared.kind.Kind.TheVariants.{Base}
use Rattle.ms_join.specs.declared.ground_module.GroundModule.{GroundModule}
use Rattle.ms_join.specs.Things.{Thing}
use Rattle.ms_complete.specs.Numbering.{Numbering}
use Rattle.ms_complete.specs.Rules.{holds}

-- Things keep their numbers, and the names of the module's atoms come last.
pub record KeepsNumbers (m : GroundModule) (old new : Numbering) : Type 0 where
  pub more : List Thing
  pub things : new.things ≡ old.things ++ more
  pub names : new.names ≡ old.names ++ m.names

-- Each key keeps what it had, what is new is of the program or asleep, and its key is fresh.
pub record KeepsSlots (old new : Store) : Type 0 where
  pub keeps : (key : ℕ) (stored : Stored) → slot_at old key ≡ Some stored → slot_at new key ≡ Some stored
  pub each : (key : ℕ) (stored : Stored) → slot_at new key ≡ Some stored → (slot_at old key ≡ Some stored) ⊎ ((stored.kind ≡ Some Base) ⊎ (stored.kind ≡ None))
  pub given : (key : ℕ) (stored : Stored) → slot_at new key ≡ Some stored → (slot_at old key ≡ Some stored) ⊎ Contains new.fresh key
  pub fresh : (key : ℕ) → Contains old.fresh key → Contains new.fresh key
  pub kept : new.kept ≡ old.kept

-- Each key keeps what it had, what is new is asleep, and its key is fresh.
pub record AddsAsleep (old new : Store) : Type 0 where
  pub keeps : (key : ℕ) (stored : Stored) → slot_at old key ≡ Some stored → slot_at new key ≡ Some stored
  pub each : (key : ℕ) (stored : Stored) → slot_at new key ≡ Some stored → (slot_at old key ≡ Some stored) ⊎ (stored.kind ≡ None)
  pub given : (key : ℕ) (stored : Stored) → slot_at new key ≡ Some stored → (slot_at old key ≡ Some stored) ⊎ Contains new.fresh key
  pub fresh : (key : ℕ) → Contains old.fresh key → Contains new.fresh key
  pub kept : new.kept ≡ old.kept

-- There are so many places more.
pub record AddsPlaces (count : ℕ) (old new : List (Option ℕ)) : Type 0 where
  pub more : List (Option ℕ)
  pub places : new ≡ old ++ more
  pub many : length more ≡ count

-- The nogood that the thing with the atom's number is true is asleep.
pub record SleepsAt (atoms : List ℕ) (store : Store) (sleepers : List (Option ℕ)) (a : ℕ) : Type 0 where
  pub key : ℕ
  pub at : slice_get sleepers a ≡ Some (Some key)
  pub number : ℕ
  pub numbered : slice_get atoms a ≡ Some number
  pub asleep : slot_at store key ≡ Some (record { lits = holds number ∷ []; kind = None })

-- One sleeps for each of these atoms from a number on, and the sleepers of the atoms before it stay.
pub record PutsToSleep (first : ℕ) (externals atoms : List ℕ) (old : Store) (sleepers : List (Option ℕ)) (new : Store) (after : List (Option ℕ)) : Type 0 where
  pub store : AddsAsleep old new
  pub places : length after ≡ length sleepers
  pub others : (a : ℕ) → a < first → slice_get after a ≡ slice_get sleepers a
  pub each : (a : ℕ) → first ≤ a → Contains externals a → SleepsAt atoms new after a
