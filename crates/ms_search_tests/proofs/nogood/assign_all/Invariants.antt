use Rattle.std.proofs.Common.{◌≡◌}
use Rattle.ms_search_tests.proofs.nogood.assign_all.Given as goal

abbrev pub invariant-loop-lit : goal.invariant-loop-lit
invariant-loop-lit l = l.trail.room ≡ l.initial.trail.room
