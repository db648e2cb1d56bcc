use Rattle.std.proofs.Common.{◌≡◌}
use Rattle.ms_unfound_tests.proofs.loops.fill.Given as goal

abbrev pub invariant-loop-lit : goal.invariant-loop-lit
invariant-loop-lit l = l.trail.room ≡ l.fn.trail.room
