-- The aggregate nogoods of a join.
-- Source: an aggregate as a propagator over its tuples, after Gebser, Kaminski, Kaufmann and Schaub, "On the implementation
-- of weight constraint rules in conflict-driven ASP solvers" (2009); the exact set is this project's.
use Rattle.std.specs.Prelude.{ℕ, ◌≡◌, Bool, false, List, All, Any}
use Rattle.ms_lits.specs.Literals.{Nogood}
use Rattle.ms_join.specs.declared.aggregate.GroundAgg.{GroundAgg}
use Rattle.ms_join.specs.Aggregates.{guards_hold, value_by}
use Rattle.ms_join.specs.Modules.{Join}
use Rattle.ms_join.specs.Things.{Thing, IsThing, tuple_of}
use Rattle.ms_join.specs.Things.Thing.{atom, body, tuple, aggregate}
use Rattle.ms_things.specs.Signs.{Signed, IsNogoodOf}

-- The thing is the aggregate or one of its tuples.
abbrev pub IsAbout : GroundAgg → Thing → Type 0
IsAbout g (atom a) = ⊥
IsAbout g (body b) = ⊥
IsAbout g (tuple t) = Any (λ e. tuple_of g.elements e ≡ t) g.elements
IsAbout g (aggregate other) = other ≡ g

-- The truth of an aggregate and of its tuples where the test says which tuples are true.
abbrev pub truth_by : (List ℕ → Bool) → Thing → Bool
truth_by test (atom a) = false
truth_by test (body b) = false
truth_by test (tuple t) = test t.terms
truth_by test (aggregate g) = guards_hold (value_by test g) g.guards

-- Whichever tuples of the aggregate are true, something that the nogood says of them or of the aggregate doesn't hold.
pub record IsAggregateNogood (j : Join) (things : List Thing) (nogood : Nogood) : Type 0 where
  pub about : GroundAgg
  pub of_join : IsThing j.atoms j.rules (aggregate about)
  pub signs : List Signed
  pub over : All (λ s. IsAbout about s.thing) signs
  pub excluded : (test : List ℕ → Bool) → ¬ All (λ s. truth_by test s.thing ≡ s.truth) signs
  pub is : IsNogoodOf things signs nogood
