use Rattle.std.proofs.Common.{◌≡◌, ◌++◌, map}
use Rattle.ms_parts.specs.Sides.{aggregate_of}
use Rattle.ms_parts.proofs.pools_form.aggregates_of_copies.Given as goal

abbrev pub invariant-loop-left : goal.invariant-loop-left
invariant-loop-left l = l.made ++ map (aggregate_of l.function l.elements) l.left-iterator.rest.items ≡ map (aggregate_of l.function l.elements) l.fn.guards
