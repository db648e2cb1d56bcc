use Rattle.std.proofs.Common.{◌≡◌}
use Rattle.ms_unfound_tests.proofs.bench.Bench.add_all.Given as goal

abbrev pub invariant-loop-key : goal.invariant-loop-key
invariant-loop-key l = l.self ≡ l.initial.self
