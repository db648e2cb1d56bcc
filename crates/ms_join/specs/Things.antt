-- The things of a join, which its completion and its nogoods speak of: atoms, bodies, tuples and aggregates, where equal
-- ones are one, also across rules and modules.
-- Source: bodies as variables beside atoms after Gebser, Kaufmann and Schaub, "Conflict-driven answer set solving: from
-- theory to practice" (2012). That tuples and aggregates are things too is this project's.
use Rattle.std.specs.Prelude.{ℕ, ◌≡◌, ◌⊎◌, ◌<◌, Bool, ◌&&◌, List, [], map, Any}
use Rattle.std.specs.List.{filter, list_all, list_any}
use Rattle.ms_join.specs.declared.aggregate.GroundElement.{GroundElement}
use Rattle.ms_join.specs.declared.aggregate.GroundAgg.{GroundAgg}
use Rattle.ms_join.specs.declared.aggregate.SignedAgg.{SignedAgg}
use Rattle.ms_join.specs.declared.ground_rule.GroundRule.{GroundRule}
use Rattle.ms_join.specs.Sets.{has_all, has_none}
use Rattle.ms_join.specs.Aggregates.{aggregate_holds, has_tuple, signed_holds}

-- A body: positive atoms, negated atoms and signed aggregates. It is the body of a rule or the condition of an element.
pub record Body : Type 0 where
  pub pos : List ℕ
  pub neg : List ℕ
  pub aggs : List SignedAgg

-- A tuple of an aggregate, with the conditions of the elements that have it.
pub record Tuple : Type 0 where
  pub terms : List ℕ
  pub conditions : List Body

pub data Thing : Type 0 where
  atom : ℕ → Thing
  body : Body → Thing
  tuple : Tuple → Thing
  aggregate : GroundAgg → Thing

abbrev pub body_of : GroundRule → Body
body_of rule = record { pos = rule.pos; neg = rule.neg; aggs = rule.aggs }

abbrev pub condition_of : GroundElement → Body
condition_of e = record { pos = e.pos; neg = e.neg; aggs = [] }

-- the tuple of an element among the elements of its aggregate
abbrev pub tuple_of : List GroundElement → GroundElement → Tuple
tuple_of elements e = record { terms = e.tuple; conditions = map condition_of (filter (has_tuple e.tuple) elements) }

-- it holds of an aggregate of the rule
abbrev pub AnyAggregate : (GroundAgg → Type 0) → GroundRule → Type 0
AnyAggregate Is rule = Any (λ s. Is s.agg) rule.aggs

-- it holds of an element of an aggregate of the rule
abbrev pub AnyElement : (GroundAgg → GroundElement → Type 0) → GroundRule → Type 0
AnyElement Is rule = AnyAggregate (λ g. Any (Is g) g.elements) rule

abbrev pub IsThingOf : GroundRule → Thing → Type 0
IsThingOf rule (atom a) = ⊥
IsThingOf rule (body b) = (body_of rule ≡ b) ⊎ AnyElement (λ g e. condition_of e ≡ b) rule
IsThingOf rule (tuple t) = AnyElement (λ g e. tuple_of g.elements e ≡ t) rule
IsThingOf rule (aggregate g) = AnyAggregate (λ other. other ≡ g) rule

-- The thing is one of a join with so many atoms and these rules.
abbrev pub IsThing : ℕ → List GroundRule → Thing → Type 0
IsThing atoms rules (atom a) = a < atoms
IsThing atoms rules (body b) = Any (λ rule. IsThingOf rule (body b)) rules
IsThing atoms rules (tuple t) = Any (λ rule. IsThingOf rule (tuple t)) rules
IsThing atoms rules (aggregate g) = Any (λ rule. IsThingOf rule (aggregate g)) rules

abbrev pub body_holds : (ℕ → Bool) → Body → Bool
body_holds set b = has_all set b.pos && (has_none set b.neg && list_all (signed_holds set) b.aggs)

-- The truth of a thing in a set of atoms: a tuple is true where one of its conditions holds.
abbrev pub thing_holds : (ℕ → Bool) → Thing → Bool
thing_holds set (atom a) = set a
thing_holds set (body b) = body_holds set b
thing_holds set (tuple t) = list_any (body_holds set) t.conditions
thing_holds set (aggregate g) = aggregate_holds set g
