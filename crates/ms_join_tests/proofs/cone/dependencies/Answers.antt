use Rattle.std.proofs.Common.{[]}
use Rattle.std.proofs.lemmas.List.Elements.{All-same}
use Rattle.ms_join.specs.AnswerSets.{IsRuleOver}
use Rattle.ms_cone.proofs.Adding.{keeps_below}
use Rattle.ms_join_tests.proofs.cone.dependencies.Goals as goal

pub returns : goal.returns
returns c =
    let rules = c.as_slice.result.now in
    keeps_below 6 c.add.new.self rules (c.in_ok-add.ensures [] c.new-dependencies.ensures) (All-same (IsRuleOver 6) rules c.in_ok-rules.rules c.as_slice.ensures c.in_ok-rules.ensures)
