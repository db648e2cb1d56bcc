use Rattle.std.proofs.Common.{◌≡◌, ◌++◌, map}
use Rattle.ms_parts.specs.Sides.{guard_of}
use Rattle.ms_parts.proofs.pools_form.guards.Given as goal

abbrev pub invariant-loop-bound : goal.invariant-loop-bound
invariant-loop-bound l = l.made ++ map (guard_of l.cmp) l.bound-iterator.rest.items ≡ map (guard_of l.cmp) l.fn.bounds
