-- The order of ground rules: that of their fields, the first that differs decides.
use Rattle.std.specs.Prelude.{ℕ}
use Rattle.std.specs.declared.cmp.Ordering.{Ordering}
use Rattle.std.specs.Ordering.{bool_cmp, int_cmp, nat_cmp, ordering_then}
use Rattle.std.specs.Option.{option_cmp}
use Rattle.std.specs.Cmp.Lexicographic.{slice_cmp}
use Rattle.ms_join.specs.declared.aggregate.AggFn3.{AggFn3}
use Rattle.ms_join.specs.declared.aggregate.AggFn3.TheVariants.{Count, Sum}
use Rattle.ms_join.specs.declared.aggregate.Cmp3.{Cmp3}
use Rattle.ms_join.specs.declared.aggregate.Cmp3.TheVariants.{Eq, Ne, Lt, Le, Gt, Ge}
use Rattle.ms_join.specs.declared.aggregate.GroundElement.{GroundElement}
use Rattle.ms_join.specs.declared.aggregate.GroundGuard.{GroundGuard}
use Rattle.ms_join.specs.declared.aggregate.GroundAgg.{GroundAgg}
use Rattle.ms_join.specs.declared.aggregate.SignedAgg.{SignedAgg}
use Rattle.ms_join.specs.declared.ground_rule.GroundRule.{GroundRule}
use Rattle.ms_join.specs.declared.ground_rule.GroundKind.{GroundKind}
use Rattle.ms_join.specs.declared.ground_rule.GroundKind.TheVariants.{Normal, Choice, Constraint}

-- kinds: normal rules, choices, constraints
abbrev pub kind_rank : GroundKind → ℕ
kind_rank Normal = 0
kind_rank Choice = 1
kind_rank Constraint = 2

abbrev pub function_rank : AggFn3 → ℕ
function_rank Count = 0
function_rank Sum = 1

abbrev pub sign_rank : Cmp3 → ℕ
sign_rank Eq = 0
sign_rank Ne = 1
sign_rank Lt = 2
sign_rank Le = 3
sign_rank Gt = 4
sign_rank Ge = 5

abbrev pub compare_elements : GroundElement → GroundElement → Ordering
compare_elements a b =
    ordering_then (slice_cmp nat_cmp a.tuple b.tuple)
    (ordering_then (option_cmp int_cmp a.weight b.weight)
    (ordering_then (slice_cmp nat_cmp a.pos b.pos) (slice_cmp nat_cmp a.neg b.neg)))

abbrev pub compare_guards : GroundGuard → GroundGuard → Ordering
compare_guards a b =
    ordering_then (nat_cmp (sign_rank a.cmp) (sign_rank b.cmp))
    (ordering_then (nat_cmp a.bound b.bound) (option_cmp int_cmp a.limit b.limit))

abbrev pub compare_aggregates : GroundAgg → GroundAgg → Ordering
compare_aggregates a b =
    ordering_then (nat_cmp (function_rank a.function) (function_rank b.function))
    (ordering_then (slice_cmp compare_elements a.elements b.elements) (slice_cmp compare_guards a.guards b.guards))

abbrev pub compare_signed : SignedAgg → SignedAgg → Ordering
compare_signed a b = ordering_then (bool_cmp a.negated b.negated) (compare_aggregates a.agg b.agg)

abbrev pub compare_rules : GroundRule → GroundRule → Ordering
compare_rules a b =
    ordering_then (nat_cmp (kind_rank a.kind) (kind_rank b.kind))
    (ordering_then (option_cmp nat_cmp a.head b.head)
    (ordering_then (slice_cmp nat_cmp a.pos b.pos)
    (ordering_then (slice_cmp nat_cmp a.neg b.neg) (slice_cmp compare_signed a.aggs b.aggs))))
