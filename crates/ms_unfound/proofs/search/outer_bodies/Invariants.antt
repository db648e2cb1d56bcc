use Rattle.std.proofs.Common.{◌≡◌, take}
use Rattle.ms_unfound.specs.Loops.{outer_bodies}
use Rattle.ms_unfound.specs.Marks.{unmarked_in}
use Rattle.ms_unfound.proofs.search.outer_bodies.Given as goal

abbrev pub invariant-loop-support : goal.invariant-loop-support
invariant-loop-support l = l.bodies.items ≡ outer_bodies (unmarked_in l.numbers l.marked l.number) (take l.support-index l.supports)
