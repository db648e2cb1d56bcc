-- How a trail is stored.
use Rattle.std.specs.Prelude.{ℕ, ◌≡◌, ◌<◌, ◌≤◌, ◌^◌, Bool, true, false, List, Option, Some, None, length, slice_index}
use Rattle.std.specs.List.{count_by, slice_index_or}
use Rattle.ms_lits.specs.declared.lit.Lit.{Lit}
use Rattle.ms_lits.specs.declared.trail.Entry.{Entry}
use Rattle.ms_lits.specs.declared.trail.Mark.{Mark}
use Rattle.ms_lits.specs.declared.trail.Mark.TheVariants.{Free, Negative, Positive}
use Rattle.ms_lits.specs.Assignment.{Assignment}

abbrev pub mark_for : Bool → Mark
mark_for true = Positive
mark_for false = Negative

abbrev pub truth_of : Mark → Option Bool
truth_of Free = None
truth_of Negative = Some false
truth_of Positive = Some true

abbrev pub is_set : Mark → Bool
is_set Free = false
is_set Negative = true
is_set Positive = true

abbrev pub assignment_in : List Entry → List ℕ → ℕ → Assignment
assignment_in entries ends room = record { entries = entries; level = length ends; room = room }

-- The places and marks tell of the entry in this place.
pub record IsNoted (room : ℕ) (places : List ℕ) (marks : List Mark) (place : ℕ) (lit : Lit) : Type 0 where
  pub within : lit.var < room
  pub placed : slice_index places lit.var ≡ place
  pub marked : slice_index_or marks lit.var Free ≡ mark_for lit.truth

-- A variable that is marked has its entry in its place.
pub record IsFound (entries : List Entry) (places : List ℕ) (var : ℕ) : Type 0 where
  pub within : slice_index places var < length entries
  pub same : (d : Entry) → (slice_index_or entries (slice_index places var) d).lit.var ≡ var

pub record AreStored (room : ℕ) (entries : List Entry) (places : List ℕ) (marks : List Mark) : Type 0 where
  pub places_len : room ≤ length places
  pub marks_len : length marks ≡ room
  pub noted : (i : ℕ) (d : Entry) → i < length entries → IsNoted room places marks i (slice_index_or entries i d).lit
  pub found : (var : ℕ) → var < room → is_set (slice_index_or marks var Free) ≡ true → IsFound entries places var
  pub count : count_by is_set marks ≡ length entries

-- Up to its end stand the entries of a level and those below it, and from there on those of greater levels.
pub record AreLevels (entries : List Entry) (ends : List ℕ) : Type 0 where
  pub within : (level : ℕ) → level < length ends → slice_index ends level ≤ length entries
  pub front : (level i : ℕ) (d : Entry) → level < length ends → i < slice_index ends level → (slice_index_or entries i d).level ≤ level
  pub back : (level i : ℕ) (d : Entry) → level < length ends → slice_index ends level ≤ i → i < length entries → level < (slice_index_or entries i d).level
  pub present : (i : ℕ) (d : Entry) → i < length entries → (slice_index_or entries i d).level ≤ length ends

-- The vectors of entries and ends have so much capacity that no push takes memory.
pub record IsTrail (room : ℕ) (entries : List Entry) (places : List ℕ) (marks : List Mark) (ends : List ℕ) (entries_capacity ends_capacity : ℕ) : Type 0 where
  pub stored : AreStored room entries places marks
  pub levels : AreLevels entries ends
  pub entries_room : room ≤ entries_capacity
  pub ends_room : room ≤ ends_capacity
  pub ends_len : length ends ≤ room
  pub fits : room < 2 ^ 32
