-- The loop nogoods of a join.
-- Source: Lin and Zhao, "ASSAT: computing answer sets of a logic program by SAT solvers" (2004), with bodies as in Gebser,
-- Kaufmann and Schaub, "Conflict-driven answer set solving: from theory to practice" (2012). That single atoms are loops
-- too is after Lee, "A model-theoretic counterpart of loop formulas" (2005).
use Rattle.std.specs.Prelude.{ℕ, Bool, ◌&&◌, IsTrue, List, ◌∷◌}
use Rattle.ms_lits.specs.Literals.{Nogood}
use Rattle.ms_join.specs.declared.ground_rule.GroundRule.{GroundRule}
use Rattle.ms_join.specs.Dependencies.{AreTogether}
use Rattle.ms_join.specs.Modules.{Join, IsOutput}
use Rattle.ms_join.specs.Sets.{has_none}
use Rattle.ms_join.specs.Things.{Thing}
use Rattle.ms_join.specs.Things.Thing.{atom}
use Rattle.ms_things.specs.Signs.{IsNogoodOf, plus}
use Rattle.ms_things.specs.Completion.{has_head_in, false_bodies}

-- A set of outputs within one component of the graph of the join's rules.
pub record IsWithinComponent (j : Join) (loop : ℕ → Bool) : Type 0 where
  pub outputs : (a : ℕ) → IsTrue (loop a) → IsOutput j a
  pub together : (a b : ℕ) → IsTrue (loop a) → IsTrue (loop b) → AreTogether j.rules a b

-- The rule has its head in the set, and none of its positive atoms.
abbrev pub supports_from_outside : (ℕ → Bool) → GroundRule → Bool
supports_from_outside loop rule = has_head_in loop rule.head && has_none loop rule.pos

-- An atom of the set is true, and each body that supports the set from outside is false.
pub record IsLoopNogood (j : Join) (things : List Thing) (nogood : Nogood) : Type 0 where
  pub loop : ℕ → Bool
  pub among : IsWithinComponent j loop
  pub member : ℕ
  pub has : IsTrue (loop member)
  pub is : IsNogoodOf things (plus (atom member) ∷ false_bodies (supports_from_outside loop) j.rules) nogood
