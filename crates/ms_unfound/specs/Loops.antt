-- The loop nogoods of a part.
-- Source: Lin and Zhao, "ASSAT: computing answer sets of a logic program by SAT solvers" (2004), with bodies as in Gebser,
-- Kaufmann and Schaub, "Conflict-driven answer set solving: from theory to practice" (2012).
use Rattle.std.specs.Prelude.{ℕ, ◌≡◌, ◌<◌, ◌==◌, Bool, ◌&&◌, IsTrue, List, ◌∷◌, Some, All, Any, map, slice_get}
use Rattle.std.specs.List.{filter}
use Rattle.ms_lits.specs.declared.lit.Lit.{Lit}
use Rattle.ms_lits.specs.Literals.{Nogood}
use Rattle.ms_join.specs.Sets.{has_none}
use Rattle.ms_complete.specs.Rules.{fails, holds}
use Rattle.ms_complete.specs.Sets.{Writes}
use Rattle.ms_unfound.specs.declared.part.Support.{Support}
use Rattle.ms_unfound.specs.declared.part.Part.{Part}
use Rattle.ms_unfound.specs.Parts.{AreInOne, Known}

-- the head is in the set, and no inner atom is
abbrev pub is_outer : (ℕ → Bool) → Support → Bool
is_outer loop s = loop s.head && has_none loop s.inner

-- the bodies of those rules that support the set from outside
abbrev pub outer_bodies : (ℕ → Bool) → List Support → List ℕ
outer_bodies loop supports = map (λ s. s.body) (filter (is_outer loop) supports)

-- Of a set of places within one component: an atom of the set is true, and each body that supports the set from outside is
-- false.
pub record IsLoopOf (part : Part) (nogood : Nogood) : Type 0 where
  pub loop : ℕ → Bool
  pub member : ℕ
  pub var : ℕ
  pub has : IsTrue (loop member)
  pub at : slice_get part.atoms member ≡ Some var
  pub together : (i : ℕ) → IsTrue (loop i) → AreInOne part i member
  pub is : Writes (holds var ∷ map fails (outer_bodies loop part.supports)) nogood

-- A loop nogood of one of the parts, over the variables.
pub record IsGiven (known : Known) (nogood : Nogood) : Type 0 where
  pub within : All (λ lit. lit.var < known.vars) nogood
  pub of_part : Any (λ part. IsLoopOf part nogood) known.parts

-- the variable holds where it is the atom
abbrev pub sign_at : ℕ → ℕ → Lit
sign_at atom var = record { var = var; truth = var == atom }
