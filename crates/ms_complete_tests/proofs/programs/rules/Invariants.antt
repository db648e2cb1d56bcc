use Rattle.std.specs.List.{All}
use Rattle.ms_complete_tests.specs.Programs.{IsRuleBelow}
use Rattle.ms_complete_tests.proofs.programs.rules.Given as goal

abbrev pub invariant-loop-row : goal.invariant-loop-row
invariant-loop-row l = All (IsRuleBelow l.count) l.rules
