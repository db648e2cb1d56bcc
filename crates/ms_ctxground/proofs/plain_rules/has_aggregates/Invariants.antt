use Rattle.std.proofs.Common.{take}
use Rattle.ms_copies.specs.Simplifying.{ArePlain}
use Rattle.ms_ctxground.proofs.plain_rules.has_aggregates.Given as goal

abbrev pub invariant-loop-rule : goal.invariant-loop-rule
invariant-loop-rule l = ArePlain (take l.rule-index l.rules)
