-- A nogood that is whole on a trail, as the places of its literals.
use Rattle.std.specs.Prelude.{ℕ, ◌≡◌, ◌<◌, ◌≤◌, ◌-◌, ◌∷◌, [], Bool, false, nat_le, nat_lt, ◌&&◌, cond, List, Option, Some, None, map, reverse, length, slice_get, All, Contains, IsSome}
use Rattle.std.specs.List.{slice_index_or}
use Rattle.std.specs.Ordering.{nat_cmp}
use Rattle.std.specs.BTreeSet.{insert_key}
use Rattle.ms_lits.specs.declared.lit.Lit.{Lit}
use Rattle.ms_lits.specs.declared.trail.Entry.{Entry}
use Rattle.ms_lits.specs.Literals.{Nogood, IsRefuted}
use Rattle.ms_lits.specs.Assignment.{Assignment, entry_of, place_in}
use Rattle.ms_nogood.specs.Store.{Store, Stored, nogood_at}
use Rattle.ms_nogood.specs.Propagation.{IsStored}
use Rattle.ms_analyze.specs.declared.Learned.{Learned}
use Rattle.ms_analyze.specs.Analysis.{IsNotTemporary}

abbrev pub no_entry : Entry
no_entry = record { lit = record { var = 0; truth = false }; level = 0; reason = None }

abbrev pub entry_at : List Entry → ℕ → Entry
entry_at entries place = slice_index_or entries place no_entry

-- the level in a place
abbrev pub level_at : List Entry → ℕ → ℕ
level_at entries place = (entry_at entries place).level

-- the literal in a place
abbrev pub lit_at : List Entry → ℕ → Lit
lit_at entries place = (entry_at entries place).lit

-- the literals in these places
abbrev pub lits_at : List Entry → List ℕ → Nogood
lits_at entries places = map (lit_at entries) places

-- whether a place is from one bound on and below another
abbrev pub is_between : ℕ → ℕ → ℕ → Bool
is_between fixed below place = nat_le fixed place && nat_lt place below

-- the places with that of one literal more, where it is between the bounds
abbrev pub marked_one : List Entry → ℕ → ℕ → List ℕ → Lit → List ℕ
marked_one entries fixed below places lit = cond (is_between fixed below (place_in entries lit.var)) (insert_key nat_cmp places (place_in entries lit.var)) places

-- the places with those of more literals
abbrev pub marked : List Entry → ℕ → ℕ → List ℕ → Nogood → List ℕ
marked entries fixed below places [] = places
marked entries fixed below places (lit ∷ lits) = marked entries fixed below (marked_one entries fixed below places lit) lits

-- The nogood of this key has literals whose variables are assigned.
pub record IsAssignedAt (store : Store) (a : Assignment) (key : ℕ) : Type 0 where
  pub stored : Stored
  pub found : nogood_at store key ≡ Some stored
  pub room : All (λ lit. lit.var < a.room) stored.lits
  pub assigned : All (λ lit. IsSome (entry_of a.entries lit.var)) stored.lits

-- The places are on the trail, and their literals are refuted.
pub record IsCut (store : Store) (entries : List Entry) (places : List ℕ) (temporary : Bool) : Type 0 where
  pub within : All (λ place. place < length entries) places
  pub refuted : IsRefuted (IsStored store) (lits_at entries places)
  pub lasting : temporary ≡ false → IsRefuted (IsNotTemporary store) (lits_at entries places)

-- One of the places has at least this level.
pub record HasPlace (entries : List Entry) (places : List ℕ) (level : ℕ) : Type 0 where
  pub place : ℕ
  pub among : Contains places place
  pub reached : level ≤ level_at entries place

-- the level of a place, or 0
abbrev pub level_or_0 : List Entry → Option ℕ → ℕ
level_or_0 entries None = 0
level_or_0 entries (Some place) = level_at entries place

-- the level of the last place, or 0
abbrev pub last_level : List Entry → List ℕ → ℕ
last_level entries places = level_or_0 entries (slice_get places (length places - 1))

-- What is read off a cut: the literal of the last place, and then the others by falling places.
pub record IsReadOff (entries : List Entry) (places : List ℕ) (last : ℕ) (label : Bool) (learned : Learned) : Type 0 where
  pub lits : learned.lits ≡ lit_at entries last ∷ lits_at entries (reverse places)
  pub back : learned.back ≡ last_level entries places
  pub temporary : learned.temporary ≡ label
