use Rattle.std.proofs.Common.{take, List, ◌++◌}
use Rattle.ms_join.specs.declared.ground_rule.GroundRule.{GroundRule}
use Rattle.ms_cone.specs.Dependencies.{Keeps}
use Rattle.ms_cone.proofs.dependencies.Dependencies.add.Given as goal

abbrev pub invariant-loop-rule : goal.invariant-loop-rule
invariant-loop-rule l = (before : List GroundRule) → Keeps l.initial.self before → Keeps l.self (before ++ take l.rule-index l.rules)
