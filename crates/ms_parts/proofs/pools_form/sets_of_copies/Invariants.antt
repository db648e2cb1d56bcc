use Rattle.std.proofs.Common.{◌≡◌, ◌++◌, map}
use Rattle.ms_parts.specs.Sides.{set_of}
use Rattle.ms_parts.proofs.pools_form.sets_of_copies.Given as goal

abbrev pub invariant-loop-left : goal.invariant-loop-left
invariant-loop-left l = l.made ++ map (set_of l.elements) l.left-iterator.rest.items ≡ map (set_of l.elements) l.fn.guards
