-- Marks for the places of a part.
use Rattle.std.specs.Prelude.{ℕ, ◌≡◌, nat_eq, Bool, true, false, not, ◌&&◌, IsTrue, List, Option, Some, None, All, count_by, slice_get, slice_index, slice_index_or}
use Rattle.ms_lits.specs.declared.trail.Entry.{Entry}
use Rattle.ms_lits.specs.Assignment.{value_in}
use Rattle.ms_join.specs.Sets.{has_all}
use Rattle.ms_unfound.specs.declared.part.Support.{Support}

-- the set of the places whose flag is set
abbrev pub flag_at : List Bool → ℕ → Bool
flag_at flags place = slice_index_or flags place false

-- a variable of this value isn't false
abbrev pub may_hold : Option Bool → Bool
may_hold None = true
may_hold (Some truth) = truth

-- the body isn't false, and the set has each inner atom, but not the head
abbrev pub asks : List Entry → (ℕ → Bool) → Support → Bool
asks entries set s = may_hold (value_in entries s.body) && (not (set s.head) && has_all set s.inner)

-- No support asks the set for its head.
abbrev pub IsStill : List Entry → List Support → (ℕ → Bool) → Type 0
IsStill entries supports set = All (λ s. asks entries set s ≡ false) supports

-- The set is within each that no support asks for its head.
abbrev pub IsMarking : List Entry → List Support → (ℕ → Bool) → Type 0
IsMarking entries supports set = (other : ℕ → Bool) → IsStill entries supports other → (i : ℕ) → IsTrue (set i) → IsTrue (other i)

-- The set is the least that no support asks for its head.
pub record IsLeast (entries : List Entry) (supports : List Support) (set : ℕ → Bool) : Type 0 where
  pub still : IsStill entries supports set
  pub within : IsMarking entries supports set

-- how many flags are not set
abbrev pub unmarked_count : List Bool → ℕ
unmarked_count flags = count_by not flags

-- the places of one component that aren't marked
abbrev pub unmarked_in : List ℕ → List Bool → ℕ → ℕ → Bool
unmarked_in numbers flags number place = nat_eq (slice_index numbers place) number && not (flag_at flags place)

-- The atom in the place isn't false, and has no mark.
pub record IsBare (entries : List Entry) (atoms : List ℕ) (flags : List Bool) (place : ℕ) : Type 0 where
  pub var : ℕ
  pub at : slice_get atoms place ≡ Some var
  pub not_false : may_hold (value_in entries var) ≡ true
  pub unmarked : flag_at flags place ≡ false
