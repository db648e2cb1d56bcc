-- Marks in the making: each support that was looked at needs nothing more, or waits for an inner atom.
use Rattle.std.specs.Prelude.{ℕ, ◌≡◌, ◌≤◌, ◌<◌, ◌+◌, ◌⊎◌, Bool, false, IsTrue, List, [], Some, All, Contains, length, slice_get, slice_index, replicate}
use Rattle.ms_lits.specs.declared.trail.Entry.{Entry}
use Rattle.ms_lits.specs.Assignment.{value_in}
use Rattle.ms_unfound.specs.declared.marking.Marking.{Marking}
use Rattle.ms_unfound.specs.declared.part.Part.{Part}
use Rattle.ms_unfound.specs.declared.part.Support.{Support}
use Rattle.ms_unfound.specs.Marks.{IsMarking, flag_at, may_hold, unmarked_count}
use Rattle.ms_unfound.specs.Watched.{KeepPlaces, places_at}

-- A flag, a list of waiting supports for each atom, and a place for each support.
pub record Fits (part : Part) (marking : Marking) : Type 0 where
  pub marked : length marking.marked ≡ length part.atoms
  pub waiting : length marking.waiting.items ≡ length part.atoms
  pub looked : length marking.looked ≡ length part.supports
  pub todo : All (λ place. place < length part.atoms) marking.todo

-- The marks are those of atoms that have support.
pub record IsUnderWay (entries : List Entry) (part : Part) (marking : Marking) : Type 0 where
  pub fits : Fits part marking
  pub marks : IsMarking entries part.supports (flag_at marking.marked)

-- how many marks and looks at marks may still come
abbrev pub work_left : Marking → ℕ
work_left marking = unmarked_count marking.marked + length marking.todo

-- The support in a place waits for an inner atom that has no mark, or whose mark is still to be looked at.
pub record WaitsFor (marking : Marking) (place : ℕ) (support : Support) : Type 0 where
  pub inner : ℕ
  pub among : Contains support.inner inner
  pub listed : Contains (places_at marking.waiting.items inner) place
  pub awaits : (flag_at marking.marked inner ≡ false) ⊎ Contains marking.todo inner

-- The body is false, or the head has its mark, or the support waits.
abbrev pub IsCared : List Entry → Marking → ℕ → Support → Type 0
IsCared entries marking place support = (may_hold (value_in entries support.body) ≡ false) ⊎ (IsTrue (flag_at marking.marked support.head) ⊎ WaitsFor marking place support)

-- the same of the support in this place
abbrev pub IsCaredAt : List Entry → List Support → Marking → ℕ → Type 0
IsCaredAt entries supports marking place = (support : Support) → slice_get supports place ≡ Some support → IsCared entries marking place support

-- What was marked, listed or to be looked at is so still, and each new mark is to be looked at.
pub record Grows (old new : Marking) : Type 0 where
  pub marks : (i : ℕ) → IsTrue (flag_at old.marked i) → IsTrue (flag_at new.marked i)
  pub lists : KeepPlaces old.waiting.items new.waiting.items
  pub todo : (i : ℕ) → Contains old.todo i → Contains new.todo i
  pub fresh : (i : ℕ) → IsTrue (flag_at new.marked i) → IsTrue (flag_at old.marked i) ⊎ Contains new.todo i

-- A step from one moment to another.
pub record GoesOn (entries : List Entry) (part : Part) (old new : Marking) : Type 0 where
  pub under_way : IsUnderWay entries part new
  pub grows : Grows old new
  pub less : work_left new ≤ work_left old

-- each of these places from one on is marked
abbrev pub AreMarkedFrom : List Bool → List ℕ → ℕ → Type 0
AreMarkedFrom flags places from = (k : ℕ) → from ≤ k → k < length places → IsTrue (flag_at flags (slice_index places k))

-- the place that stands there isn't marked
pub record IsUnmarkedAt (flags : List Bool) (places : List ℕ) (at : ℕ) : Type 0 where
  pub within : at < length places
  pub unmarked : flag_at flags (slice_index places at) ≡ false

-- each support
abbrev pub AreCared : List Entry → List Support → Marking → Type 0
AreCared entries supports marking = (place : ℕ) → IsCaredAt entries supports marking place

-- No mark, no waiting support, nothing to be looked at.
pub record IsFresh (atoms supports : ℕ) (marking : Marking) : Type 0 where
  pub marked : marking.marked ≡ replicate atoms false
  pub waiting : length marking.waiting.items ≡ atoms
  pub looked : length marking.looked ≡ supports
  pub todo : marking.todo ≡ []

-- The support in a place now waits for this inner atom, and the marks are as they were.
pub record IsListed (old : Marking) (place inner : ℕ) (new : Marking) : Type 0 where
  pub marked : new.marked ≡ old.marked
  pub todo : new.todo ≡ old.todo
  pub looked : length new.looked ≡ length old.looked
  pub waiting : length new.waiting.items ≡ length old.waiting.items
  pub lists : KeepPlaces old.waiting.items new.waiting.items
  pub has : Contains (places_at new.waiting.items inner) place
