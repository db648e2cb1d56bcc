use Rattle.std.proofs.Common.{ℕ, ◌<◌}
use Rattle.std.specs.Prelude.{All, Contains}
use Rattle.ms_unfound_tests.proofs.bench.Bench.new.Given as goal

abbrev pub invariant-loop-var : goal.invariant-loop-var
invariant-loop-var l = record {
  below : All (λ (atom : ℕ). atom < l.vars) l.atoms.items;
  every : (var : ℕ) → var < l.var → Contains l.atoms.items var;
}
