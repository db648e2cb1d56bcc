-- The nogoods of the program in a store.
use Rattle.std.specs.Prelude.{ℕ, ◌≡◌, ◌⊎◌, ◌↔◌, Some, Contains}
use Rattle.ms_lits.specs.Literals.{Nogood}
use Rattle.ms_nogood.specs.declared.kind.Kind.TheVariants.{Base}
use Rattle.ms_nogood.specs.Store.{Store, Stored, slot_at}

abbrev pub base_of : Nogood → Stored
base_of nogood = record { lits = nogood; kind = Some Base }

-- It is a nogood of the program.
abbrev pub HasBase : Store → Nogood → Type 0
HasBase store nogood = (key : ℕ) × (slot_at store key ≡ Some (base_of nogood))

-- The nogoods of the program are exactly these.
abbrev pub HasExactly : Store → (Nogood → Type 0) → Type 0
HasExactly store Is = (nogood : Nogood) → HasBase store nogood ↔ Is nogood

-- Each key keeps what it had, exactly these nogoods of the program have been added, and their keys are fresh.
pub record AddsExactly (old new : Store) (Is : Nogood → Type 0) : Type 0 where
  pub keeps : (key : ℕ) (stored : Stored) → slot_at old key ≡ Some stored → slot_at new key ≡ Some stored
  pub each : (key : ℕ) (stored : Stored) → slot_at new key ≡ Some stored → (slot_at old key ≡ Some stored) ⊎ ((nogood : Nogood) × (stored ≡ base_of nogood) × Is nogood)
  pub all : (nogood : Nogood) → Is nogood → HasBase new nogood
  pub given : (key : ℕ) (stored : Stored) → slot_at new key ≡ Some stored → (slot_at old key ≡ Some stored) ⊎ Contains new.fresh key
  pub fresh : (key : ℕ) → Contains old.fresh key → Contains new.fresh key
  pub kept : new.kept ≡ old.kept

-- Each key keeps what it had, only nogoods of the program have been added, and their keys are fresh.
pub record KeepsKeys (old new : Store) : Type 0 where
  pub keeps : (key : ℕ) (stored : Stored) → slot_at old key ≡ Some stored → slot_at new key ≡ Some stored
  pub each : (key : ℕ) (stored : Stored) → slot_at new key ≡ Some stored → (slot_at old key ≡ Some stored) ⊎ (stored.kind ≡ Some Base)
  pub given : (key : ℕ) (stored : Stored) → slot_at new key ≡ Some stored → (slot_at old key ≡ Some stored) ⊎ Contains new.fresh key
  pub fresh : (key : ℕ) → Contains old.fresh key → Contains new.fresh key
  pub kept : new.kept ≡ old.kept
