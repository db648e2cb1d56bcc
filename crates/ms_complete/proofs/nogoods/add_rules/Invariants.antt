use Rattle.std.proofs.Common.{take}
use Rattle.std.specs.List.{Any}
use Rattle.ms_complete.specs.Bases.{AddsExactly}
use Rattle.ms_complete.specs.Rules.{RuleSays}
use Rattle.ms_complete.proofs.nogoods.add_rules.Given as goal

abbrev pub invariant-loop-rule : goal.invariant-loop-rule
invariant-loop-rule l = AddsExactly l.fn.store l.store (λ n. Any (λ r. RuleSays r n) (take l.rule-index l.rules))
