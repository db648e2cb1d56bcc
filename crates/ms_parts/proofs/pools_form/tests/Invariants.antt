use Rattle.std.proofs.Common.{◌≡◌, ◌++◌, map}
use Rattle.ms_parts.specs.Sides.{test_of}
use Rattle.ms_core.specs.Pools.{pairs_with}
use Rattle.ms_parts.proofs.pools_form.tests.Given as goal

abbrev pub invariant-loop-left : goal.invariant-loop-left
invariant-loop-left l = l.made ++ map (test_of l.cmp) l.left-iterator.rest.items ≡ pairs_with (λ x y. test_of l.cmp (x, y)) l.fn.lefts l.fn.rights
