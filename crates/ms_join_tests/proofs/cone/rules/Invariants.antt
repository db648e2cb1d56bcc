use Rattle.std.proofs.Common.{All}
use Rattle.ms_join.specs.AnswerSets.{IsRuleOver}
use Rattle.ms_join_tests.proofs.cone.rules.Given as goal

abbrev pub invariant-loop-head : goal.invariant-loop-head
invariant-loop-head l = All (IsRuleOver 6) l.rules
