-- What a walk over the literals of a nogood finds.
use Rattle.std.specs.Prelude.{ℕ, ◌≡◌, ◌⊎◌, List, Some, All}
use Rattle.ms_lits.specs.declared.lit.Lit.{Lit}
use Rattle.ms_lits.specs.declared.trail.Entry.{Entry}
use Rattle.ms_lits.specs.Literals.{Nogood, opposite_of}
use Rattle.ms_lits.specs.Assignment.{HoldsIn, IsWholeIn, IsUnitIn}
use Rattle.ms_nogood.specs.Store.{Store, Stored, nogood_at}
use Rattle.ms_nogood.specs.declared.scan.Look.{Look}
use Rattle.ms_nogood.specs.declared.scan.Look.TheVariants.{Whole, Open, Calm}

-- The nogood isn't whole in the entries, and where all of its literals but one hold, the opposite of that one
-- holds.
pub record IsCalmIn (entries : List Entry) (nogood : Nogood) : Type 0 where
  pub not_whole : ¬ IsWholeIn entries nogood
  pub closed : (lit : Lit) → All (λ other. (other ≡ lit) ⊎ HoldsIn entries other) nogood → HoldsIn entries (opposite_of lit)

abbrev pub IsLook : List Entry → Nogood → Look → Type 0
IsLook entries nogood Whole = IsWholeIn entries nogood
IsLook entries nogood (Open lit) = IsUnitIn entries nogood lit
IsLook entries nogood Calm = IsCalmIn entries nogood

-- The nogood of this key, where it has one, is calm in the entries.
abbrev pub IsCalmAt : Store → List Entry → ℕ → Type 0
IsCalmAt store entries key = (stored : Stored) → nogood_at store key ≡ Some stored → IsCalmIn entries stored.lits
