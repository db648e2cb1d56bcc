-- Sets of things with signs, and how such a set is written as a nogood.
use Rattle.std.specs.Prelude.{ℕ, ◌≡◌, ◌<◌, Bool, true, false, not, List, Some, All, AllPairs, Any, slice_get}
use Rattle.ms_lits.specs.declared.lit.Lit.{Lit}
use Rattle.ms_lits.specs.Literals.{Nogood}
use Rattle.ms_join.specs.Things.{Thing}

-- a thing with the truth that is asked of it
pub record Signed : Type 0 where
  pub thing : Thing
  pub truth : Bool

abbrev pub plus : Thing → Signed
plus t = record { thing = t; truth = true }

abbrev pub minus : Thing → Signed
minus t = record { thing = t; truth = false }

abbrev pub turned : Signed → Signed
turned s = record { thing = s.thing; truth = not s.truth }

-- the literal says this of the thing that has its number
abbrev pub IsFor : List Thing → Signed → Lit → Type 0
IsFor things s lit = (slice_get things lit.var ≡ Some s.thing) × (lit.truth ≡ s.truth)

-- The nogood is this set: its literals are those of the set, in rising order of their numbers. So a set that has two signs
-- of one thing is no nogood.
pub record IsNogoodOf (things : List Thing) (set : List Signed) (nogood : Nogood) : Type 0 where
  pub rising : AllPairs (λ lit next. lit.var < next.var) nogood
  pub of_set : All (λ lit. Any (λ s. IsFor things s lit) set) nogood
  pub whole : All (λ s. Any (IsFor things s) nogood) set

-- Each literal of the nogood holds under these truths.
abbrev pub IsContainedIn : (ℕ → Bool) → Nogood → Type 0
IsContainedIn truths nogood = All (λ lit. truths lit.var ≡ lit.truth) nogood
