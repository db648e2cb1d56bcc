-- What contracts see of a trail: a partial assignment by levels.
use Rattle.std.specs.Prelude.{ℕ, ◌≡◌, ◌<◌, ◌≤◌, ◌^◌, ◌⊎◌, ◌==◌, nat_le, Bool, cond, suc, List, [], ◌∷◌, Option, Some, None, option_map, All, Contains, length}
use Rattle.std.specs.List.{filter, slice_index_or}
use Rattle.ms_lits.specs.declared.lit.Lit.{Lit}
use Rattle.ms_lits.specs.declared.trail.Entry.{Entry}
use Rattle.ms_lits.specs.Literals.{Nogood}

-- The entries in the order in which they were assigned, the present level, and the number of variables for
-- which there is room.
pub record Assignment : Type 0 where
  pub entries : List Entry
  pub level : ℕ
  pub room : ℕ

abbrev pub entry_made : Lit → ℕ → Option ℕ → Entry
entry_made lit level reason = record { lit = lit; level = level; reason = reason }

-- the first entry of a variable
abbrev pub entry_of : List Entry → ℕ → Option Entry
entry_of [] var = None
entry_of (e ∷ es) var = cond (e.lit.var == var) (Some e) (entry_of es var)

-- the place of the first entry of a variable, or the number of entries where it has none
abbrev pub place_in : List Entry → ℕ → ℕ
place_in [] var = 0
place_in (e ∷ es) var = cond (e.lit.var == var) 0 (suc (place_in es var))

abbrev pub value_in : List Entry → ℕ → Option Bool
value_in entries var = option_map (λ e. e.lit.truth) (entry_of entries var)

-- the entries of the levels up to this one
abbrev pub up_to : ℕ → List Entry → List Entry
up_to level entries = filter (λ e. nat_le e.level level) entries

-- the literal holds in the entries
abbrev pub HoldsIn : List Entry → Lit → Type 0
HoldsIn entries lit = value_in entries lit.var ≡ Some lit.truth

-- Each literal of the nogood holds in the entries.
abbrev pub IsWholeIn : List Entry → Nogood → Type 0
IsWholeIn entries nogood = All (HoldsIn entries) nogood

-- All literals of the nogood but one hold in the entries, and the variable of that one is unassigned.
pub record IsUnitIn (entries : List Entry) (nogood : Nogood) (lit : Lit) : Type 0 where
  pub contained : Contains nogood lit
  pub unassigned : value_in entries lit.var ≡ None
  pub others : All (λ other. (other ≡ lit) ⊎ HoldsIn entries other) nogood

-- Variables are below the room, each has one entry, and levels rise along the entries up to the present one.
pub record IsAssignment (a : Assignment) : Type 0 where
  pub within : (i : ℕ) (d : Entry) → i < length a.entries → (slice_index_or a.entries i d).lit.var < a.room
  pub once : (i k : ℕ) (d : Entry) → i < length a.entries → k < length a.entries → (slice_index_or a.entries i d).lit.var ≡ (slice_index_or a.entries k d).lit.var → i ≡ k
  pub rising : (i k : ℕ) (d : Entry) → i ≤ k → k < length a.entries → (slice_index_or a.entries i d).level ≤ (slice_index_or a.entries k d).level
  pub present : (i : ℕ) (d : Entry) → i < length a.entries → (slice_index_or a.entries i d).level ≤ a.level
  pub few : length a.entries ≤ a.room
  pub levels : a.level ≤ a.room
  pub fits : a.room < 2 ^ 32
