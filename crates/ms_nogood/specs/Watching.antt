-- When what a way of propagating keeps stays in step with a store and a trail.
use Rattle.std.specs.Prelude.{ℕ, ◌≡◌, ◌<◌, ◌⊎◌, Bool, false, List, Some, option_map, length}
use Rattle.std.specs.List.{slice_index_or}
use Rattle.ms_lits.specs.Assignment.{Assignment, up_to}
use Rattle.ms_nogood.specs.Store.{Store, Stored, slot_at}
use Rattle.ms_nogood.specs.Looks.{IsCalmIn}

-- The nogood of this key has fewer than two literals, or it is calm in the literals up to each level below the present
-- one.
abbrev pub CanAttach : Store → Assignment → ℕ → Type 0
CanAttach store trail key = (stored : Stored) → slot_at store key ≡ Some stored → (length stored.lits < 2) ⊎ ((level : ℕ) → level < trail.level → IsCalmIn (up_to level trail.entries) stored.lits)

-- The key has the same literals in both stores, asleep or not.
abbrev pub HasSameLits : Store → Store → ℕ → Type 0
HasSameLits old new key = option_map (λ s. s.lits) (slot_at new key) ≡ option_map (λ s. s.lits) (slot_at old key)

-- whether the flag of a key is set
abbrev pub attached_in : List Bool → ℕ → Bool
attached_in flags key = slice_index_or flags key false
