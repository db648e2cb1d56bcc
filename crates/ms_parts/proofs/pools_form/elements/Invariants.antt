use Rattle.std.proofs.Common.{◌≡◌, ◌++◌, map}
use Rattle.ms_parts.specs.Sides.{element_of}
use Rattle.ms_core.specs.Pools.{pairs_with}
use Rattle.ms_parts.proofs.pools_form.elements.Given as goal

abbrev pub invariant-loop-tuple : goal.invariant-loop-tuple
invariant-loop-tuple l = l.made ++ map element_of l.tuple-iterator.rest.items ≡ pairs_with (λ x y. element_of (x, y)) l.fn.tuples l.fn.conds
