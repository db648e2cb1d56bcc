-- The entries of a trail that are settled for loops.
-- Source: unfounded sets under partial assignments after Gebser, Kaufmann and Schaub, "Conflict-driven answer set solving:
-- from theory to practice" (2012).
use Rattle.std.specs.Prelude.{◌≡◌, ◌≢◌, ◌⊎◌, true, false, List, Some, All, Contains}
use Rattle.ms_lits.specs.declared.lit.Lit.{Lit}
use Rattle.ms_lits.specs.declared.trail.Entry.{Entry}
use Rattle.ms_lits.specs.Literals.{Nogood}
use Rattle.ms_lits.specs.Assignment.{HoldsIn, value_in}
use Rattle.ms_nogood.specs.declared.theory.Verdict.{Verdict}
use Rattle.ms_nogood.specs.declared.theory.Verdict.TheVariants.{Quiet, Nogood as Presses}
use Rattle.ms_unfound.specs.declared.part.Part.{Part}
use Rattle.ms_unfound.specs.Loops.{IsGiven, IsLoopOf}
use Rattle.ms_unfound.specs.Parts.{Known}

-- All literals of the nogood hold but that of the atom, and the atom isn't false.
pub record IsPressing (entries : List Entry) (nogood : Nogood) : Type 0 where
  pub atom : Lit
  pub contained : Contains nogood atom
  pub positive : atom.truth ≡ true
  pub others : All (λ other. (other ≡ atom) ⊎ HoldsIn entries other) nogood
  pub not_false : value_in entries atom.var ≢ Some false

-- No loop nogood is pressing.
abbrev pub IsSettled : Known → List Entry → Type 0
IsSettled known entries = (nogood : Nogood) → IsGiven known nogood → ¬ IsPressing entries nogood

-- The same of one part.
abbrev pub IsSettledPart : Part → List Entry → Type 0
IsSettledPart part entries = (nogood : Nogood) → IsLoopOf part nogood → ¬ IsPressing entries nogood

pub record IsPressingLoop (part : Part) (entries : List Entry) (nogood : Nogood) : Type 0 where
  pub is : IsLoopOf part nogood
  pub pressing : IsPressing entries nogood

pub record IsPressingGiven (known : Known) (entries : List Entry) (nogood : Nogood) : Type 0 where
  pub given : IsGiven known nogood
  pub pressing : IsPressing entries nogood

-- Quiet exactly where the entries are settled: else the nogood presses.
abbrev pub IsExact : Known → List Entry → Verdict → Type 0
IsExact known entries Quiet = IsSettled known entries
IsExact known entries (Presses lits) = IsPressingGiven known entries lits
