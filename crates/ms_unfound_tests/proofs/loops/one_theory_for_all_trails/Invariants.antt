use Rattle.std.proofs.Common.{◌≤◌}
use Rattle.ms_unfound_tests.proofs.loops.one_theory_for_all_trails.Given as goal

abbrev pub invariant-loop-row : goal.invariant-loop-row
invariant-loop-row g l = l.theory.vars ≤ l.things
