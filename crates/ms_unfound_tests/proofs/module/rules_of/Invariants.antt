use Rattle.std.specs.List.{All}
use Rattle.ms_unfound_tests.specs.Tiny.{IsTinyRule}
use Rattle.ms_unfound_tests.proofs.module.rules_of.Given as goal

abbrev pub invariant-loop-row : goal.invariant-loop-row
invariant-loop-row l = All IsTinyRule l.rules
