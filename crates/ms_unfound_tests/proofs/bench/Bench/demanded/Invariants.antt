use Rattle.std.proofs.Common.{◌<◌}
use Rattle.std.specs.Prelude.{All}
use Rattle.ms_lits.specs.declared.lit.Lit.{Lit}
use Rattle.ms_unfound_tests.proofs.bench.Bench.demanded.Given as goal

abbrev pub invariant-loop-lit : goal.invariant-loop-lit
invariant-loop-lit l = All (λ (lit : Lit). lit.var < l.self-inside.vars) l.lits.items
