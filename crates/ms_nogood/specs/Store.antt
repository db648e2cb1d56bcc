-- What contracts see of a store of nogoods.
use Rattle.std.specs.Prelude.{ℕ, ◌≡◌, ◌≢◌, ◌<◌, ◌≤◌, ◌-◌, ◌++◌, ◌∷◌, [], Bool, true, false, List, Option, Some, None, option_map, is_some, cond, take, drop, length, All, Contains}
use Rattle.std.specs.List.{slice_index_or}
use Rattle.ms_lits.specs.Literals.{Nogood}
use Rattle.ms_nogood.specs.declared.kind.Kind.{Kind}
use Rattle.ms_nogood.specs.declared.kind.Kind.TheVariants.{Base, Kept, Temporary, Reason}

abbrev pub ends_with_solve : Kind → Bool
ends_with_solve Base = false
ends_with_solve Kept = false
ends_with_solve Temporary = true
ends_with_solve Reason = true

abbrev pub is_kept : Option Kind → Bool
is_kept None = false
is_kept (Some Base) = false
is_kept (Some Kept) = true
is_kept (Some Temporary) = false
is_kept (Some Reason) = false

-- whether the end of a solve drops it
abbrev pub ends_by_kind : Option Kind → Bool
ends_by_kind None = false
ends_by_kind (Some kind) = ends_with_solve kind

-- A nogood with its kind, or None while it is asleep.
pub record Stored : Type 0 where
  pub lits : Nogood
  pub kind : Option Kind

-- What is at each key, asleep or not, the keys of the kept ones in the order in which they were added, and the keys
-- that were given since these were last forgotten.
pub record Store : Type 0 where
  pub slots : List (Option Stored)
  pub kept : List ℕ
  pub fresh : List ℕ

-- whether the end of a solve drops what is stored
abbrev pub ends : Option Stored → Bool
ends None = false
ends (Some s) = ends_by_kind s.kind

-- what is at a key, asleep or not
abbrev pub slot_at : Store → ℕ → Option Stored
slot_at store key = slice_index_or store.slots key None

abbrev pub awake_in : Option Stored → Option Stored
awake_in None = None
awake_in (Some s) = cond (is_some s.kind) (Some s) None

-- the nogood of a key of the store
abbrev pub nogood_at : Store → ℕ → Option Stored
nogood_at store key = awake_in (slot_at store key)

-- The key has a nogood that is asleep.
abbrev pub IsAsleepAt : Store → ℕ → Type 0
IsAsleepAt store key = option_map (λ s. s.kind) (slot_at store key) ≡ Some None

abbrev pub holds_kept : Option Stored → Bool
holds_kept None = false
holds_kept (Some s) = is_kept s.kind

-- The order has exactly the keys of the kept nogoods, each once.
pub record AreKept (slots : List (Option Stored)) (kept : List ℕ) : Type 0 where
  pub all_kept : (i : ℕ) (d : ℕ) → i < length kept → holds_kept (slice_index_or slots (slice_index_or kept i d) None) ≡ true
  pub every_one : (key : ℕ) → holds_kept (slice_index_or slots key None) ≡ true → Contains kept key
  pub once : (i k : ℕ) (d : ℕ) → i < length kept → k < length kept → slice_index_or kept i d ≡ slice_index_or kept k d → i ≡ k

abbrev pub kept_after : List ℕ → Option Kind → ℕ → List ℕ
kept_after kept None key = kept
kept_after kept (Some Base) key = kept
kept_after kept (Some Kept) key = kept ++ key ∷ []
kept_after kept (Some Temporary) key = kept
kept_after kept (Some Reason) key = kept

-- The new store has this nogood more, under a key that had none.
pub record Adds (old new : Store) (stored : Stored) (key : ℕ) : Type 0 where
  pub was_free : slot_at old key ≡ None
  pub added : slot_at new key ≡ Some stored
  pub others : (other : ℕ) → other ≢ key → slot_at new other ≡ slot_at old other
  pub kept : new.kept ≡ kept_after old.kept stored.kind key
  pub fresh : new.fresh ≡ old.fresh ++ key ∷ []

-- The nogood of this key is now in the store, with the kind Base, and all else stays.
pub record Wakes (old new : Store) (key : ℕ) : Type 0 where
  pub woken : slot_at new key ≡ option_map (λ s. record { lits = s.lits; kind = Some Base }) (slot_at old key)
  pub others : (other : ℕ) → other ≢ key → slot_at new other ≡ slot_at old other
  pub kept : new.kept ≡ old.kept
  pub fresh : new.fresh ≡ old.fresh

-- The nogood of this key is dropped, and all else stays.
pub record Drops (old new : Store) (key : ℕ) : Type 0 where
  pub dropped : slot_at new key ≡ None
  pub others : (other : ℕ) → other ≢ key → slot_at new other ≡ slot_at old other
  pub kept : new.kept ≡ old.kept
  pub fresh : new.fresh ≡ old.fresh

-- The keys that the end of a solve drops are among these.
abbrev pub CoverEnding : List (Option Stored) → List ℕ → Type 0
CoverEnding slots keys = (key : ℕ) → ends (slice_index_or slots key None) ≡ true → Contains keys key

-- What is stored below a capacity, with the order of the kept keys, and keys among which those are that the end of a
-- solve drops.
pub record IsStore (slots : List (Option Stored)) (kept passing : List ℕ) (capacity : ℕ) : Type 0 where
  pub ended : (key : ℕ) → capacity ≤ key → slice_index_or slots key None ≡ None
  pub order : AreKept slots kept
  pub covered : CoverEnding slots passing

-- what is left of a nogood at the end of a solve
abbrev pub lasting : Option Stored → Option Stored
lasting None = None
lasting (Some s) = cond (ends_by_kind s.kind) None (Some s)

-- The end of a solve drops exactly the nogoods that last for one solve.
pub record EndsSolve (old new : Store) : Type 0 where
  pub lasts : (key : ℕ) → slot_at new key ≡ lasting (slot_at old key)
  pub kept : new.kept ≡ old.kept
  pub fresh : new.fresh ≡ old.fresh

-- The first kept nogoods are dropped, so many that the last ones are left, and all else stays.
pub record Trims (old new : Store) (keep : ℕ) : Type 0 where
  pub kept : new.kept ≡ drop (length old.kept - keep) old.kept
  pub dropped : All (λ key. slot_at new key ≡ None) (take (length old.kept - keep) old.kept)
  pub others : (key : ℕ) → ¬ Contains (take (length old.kept - keep) old.kept) key → slot_at new key ≡ slot_at old key
  pub fresh : new.fresh ≡ old.fresh
