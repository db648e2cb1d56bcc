-- Unit propagation: what a scan of a store assigns on a trail.
use Rattle.std.specs.Prelude.{ℕ, ◌≡◌, ◌<◌, ◌≤◌, ◌++◌, Bool, true, false, not, List, Option, Some, None, option_map, map, take, length, All}
use Rattle.std.specs.List.{slice_index_or}
use Rattle.ms_lits.specs.declared.lit.Lit.{Lit}
use Rattle.ms_lits.specs.declared.trail.Entry.{Entry}
use Rattle.ms_lits.specs.Literals.{Nogood, opposite_of, IsClosed, IsDerived, HasWhole}
use Rattle.ms_lits.specs.Assignment.{Assignment, value_in, IsWholeIn, IsUnitIn}
use Rattle.ms_nogood.specs.Store.{Store, Stored, nogood_at}
use Rattle.ms_nogood.specs.declared.scan.Scan.{Scan}
use Rattle.ms_nogood.specs.declared.scan.Scan.TheVariants.{Closed, Violated}

-- The nogood is in the store: a key has it, and it isn't asleep.
pub record IsStored (store : Store) (nogood : Nogood) : Type 0 where
  pub key : ℕ
  pub stored : Stored
  pub found : nogood_at store key ≡ Some stored
  pub same : stored.lits ≡ nogood

-- the literals of the entries
abbrev pub lits_of : List Entry → List Lit
lits_of entries = map (λ e. e.lit) entries

-- whether a variable of this value has this truth
abbrev pub has_truth : Option Bool → Bool → Bool
has_truth None truth = false
has_truth (Some true) truth = truth
has_truth (Some false) truth = not truth

-- the set of the literals that hold in the entries
abbrev pub held_in : List Entry → Lit → Bool
held_in entries lit = has_truth (value_in entries lit.var) lit.truth

-- The variables of the store are below the room of a trail.
abbrev pub IsWithin : Store → ℕ → Type 0
IsWithin store room = (key : ℕ) (stored : Stored) → nogood_at store key ≡ Some stored → All (λ lit. lit.var < room) stored.lits

-- The nogood of this key is whole in the entries.
pub record IsWholeAt (store : Store) (entries : List Entry) (key : ℕ) : Type 0 where
  pub stored : Stored
  pub found : nogood_at store key ≡ Some stored
  pub whole : IsWholeIn entries stored.lits

-- The entry is at this level, and its reason is a nogood of the store that was unit in the entries before it.
pub record IsForced (store : Store) (level : ℕ) (before : List Entry) (entry : Entry) : Type 0 where
  pub at_level : entry.level ≡ level
  pub key : ℕ
  pub reason : entry.reason ≡ Some key
  pub stored : Stored
  pub found : nogood_at store key ≡ Some stored
  pub unit : IsUnitIn before stored.lits (opposite_of entry.lit)

-- The new assignment has entries more, each forced by those before it, and each in the unit closure.
pub record Propagates (store : Store) (old new : Assignment) : Type 0 where
  pub level : new.level ≡ old.level
  pub room : new.room ≡ old.room
  pub added : List Entry
  pub entries : new.entries ≡ old.entries ++ added
  pub forced : (i : ℕ) (d : Entry) → length old.entries ≤ i → i < length new.entries → IsForced store old.level (take i new.entries) (slice_index_or new.entries i d)
  pub derived : All (IsDerived (IsStored store) (lits_of old.entries)) (lits_of new.entries)

-- The literals that hold are closed, and no nogood is whole in them.
pub record IsSettled (store : Store) (entries : List Entry) : Type 0 where
  pub closed : IsClosed (IsStored store) (held_in entries)
  pub none_whole : ¬ HasWhole (IsStored store) (held_in entries)

-- What a scan answers of the entries that it leaves.
abbrev pub Answers : Store → List Entry → Scan → Type 0
Answers store entries Closed = IsSettled store entries
Answers store entries (Violated key) = IsWholeAt store entries key
