use Rattle.std.proofs.Common.{ℕ, ◌≡◌, ◌<◌, Some, true, false}
use Rattle.std.specs.Prelude.{◌≢◌}
use Rattle.ms_lits.specs.Assignment.{value_in}
use Rattle.ms_search_tests.specs.Forbids.{AreFalse}
use Rattle.ms_search_tests.proofs.bench.AllFalse.first.Given as goal

abbrev pub invariant-loop-var : goal.invariant-loop-var
invariant-loop-var l = (var : ℕ) → var < l.var → value_in l.trail.entries var ≢ Some true

abbrev pub invariant-loop-var-2 : goal.invariant-loop-var-2
invariant-loop-var-2 l = AreFalse l.var l.trail.entries
