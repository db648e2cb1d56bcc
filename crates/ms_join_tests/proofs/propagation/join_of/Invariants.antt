use Rattle.std.proofs.Common.{All}
use Rattle.ms_join.specs.AnswerSets.{IsRuleOver}
use Rattle.ms_join_tests.proofs.propagation.join_of.Given as goal

abbrev pub invariant-loop-row : goal.invariant-loop-row
invariant-loop-row l = All (IsRuleOver 4) l.rules
