-- The value of a ground aggregate in a set of atoms, and whether its guards hold.
-- Source: aggregates of the ASP-Core-2 input language format: the value is that of the set of the tuples of those elements
-- whose conditions hold. That `#sum` passes over a tuple that doesn't begin with an integer is gringo's. A value is
-- compared by the order of terms, in which integers come first.
use Rattle.std.specs.Prelude.{ℕ, nat_eq, ℤ, pos, ◌+ℤ◌, Bool, not, ◌&&◌, cond, List, [], ◌∷◌, Option, Some, None}
use Rattle.std.specs.declared.cmp.Ordering.{Ordering}
use Rattle.std.specs.declared.cmp.Ordering.TheVariants.{Less}
use Rattle.std.specs.Ordering.{int_cmp, is_eq, is_ne, is_lt, is_le, is_gt, is_ge}
use Rattle.std.specs.Cmp.Lexicographic.{pointwise}
use Rattle.std.specs.List.{filter, list_all, list_any}
use Rattle.ms_join.specs.declared.aggregate.AggFn3.{AggFn3}
use Rattle.ms_join.specs.declared.aggregate.AggFn3.TheVariants.{Count, Sum}
use Rattle.ms_join.specs.declared.aggregate.Cmp3.{Cmp3}
use Rattle.ms_join.specs.declared.aggregate.Cmp3.TheVariants.{Eq, Ne, Lt, Le, Gt, Ge}
use Rattle.ms_join.specs.declared.aggregate.GroundElement.{GroundElement}
use Rattle.ms_join.specs.declared.aggregate.GroundGuard.{GroundGuard}
use Rattle.ms_join.specs.declared.aggregate.GroundAgg.{GroundAgg}
use Rattle.ms_join.specs.declared.aggregate.SignedAgg.{SignedAgg}
use Rattle.ms_join.specs.Sets.{has_all, has_none}

-- the condition of the element holds in the set
abbrev pub element_holds : (ℕ → Bool) → GroundElement → Bool
element_holds set e = has_all set e.pos && has_none set e.neg

abbrev pub has_tuple : List ℕ → GroundElement → Bool
has_tuple tuple e = pointwise nat_eq e.tuple tuple

-- some element that has the tuple has a condition that holds in the set
abbrev pub tuple_holds : (ℕ → Bool) → List GroundElement → List ℕ → Bool
tuple_holds set elements tuple = list_any (λ e. has_tuple tuple e && element_holds set e) elements

-- the first element of each tuple, in their order
unfoldable pub first_elements : List GroundElement → List GroundElement
first_elements [] = []
first_elements (e ∷ es) = e ∷ filter (λ other. not (has_tuple e.tuple other)) (first_elements es)

-- what a tuple that begins with this integer, or with none, adds to the value
abbrev pub weight_for : AggFn3 → Option ℤ → ℤ
weight_for Count weight = pos 1
weight_for Sum (Some n) = n
weight_for Sum None = pos 0

-- the sum over those elements whose tuples pass the test
unfoldable pub total : (List ℕ → Bool) → AggFn3 → List GroundElement → ℤ
total test function [] = pos 0
total test function (e ∷ es) = cond (test e.tuple) (weight_for function e.weight) (pos 0) +ℤ total test function es

-- The value of an aggregate where the test says of each tuple whether one of its conditions holds. Each tuple counts once.
abbrev pub value_by : (List ℕ → Bool) → GroundAgg → ℤ
value_by test g = total test g.function (first_elements g.elements)

-- the order of a value and a bound: a bound that is no integer is greater than every integer
abbrev pub against : ℤ → Option ℤ → Ordering
against n (Some limit) = int_cmp n limit
against n None = Less

abbrev pub admits : Cmp3 → Ordering → Bool
admits Eq order = is_eq order
admits Ne order = is_ne order
admits Lt order = is_lt order
admits Le order = is_le order
admits Gt order = is_gt order
admits Ge order = is_ge order

abbrev pub guard_holds : ℤ → GroundGuard → Bool
guard_holds n guard = admits guard.cmp (against n guard.limit)

abbrev pub guards_hold : ℤ → List GroundGuard → Bool
guards_hold n guards = list_all (guard_holds n) guards

-- The value of an aggregate in a set, and whether the aggregate holds there.
abbrev pub value_in_set : (ℕ → Bool) → GroundAgg → ℤ
value_in_set set g = value_by (tuple_holds set g.elements) g

abbrev pub aggregate_holds : (ℕ → Bool) → GroundAgg → Bool
aggregate_holds set g = guards_hold (value_in_set set g) g.guards

abbrev pub signed_holds : (ℕ → Bool) → SignedAgg → Bool
signed_holds set s = cond s.negated (not (aggregate_holds set s.agg)) (aggregate_holds set s.agg)
