use Rattle.std.proofs.Common.{take}
use Rattle.ms_ctxground.specs.LeftRules.{AreAllLeft}
use Rattle.ms_ctxground.proofs.rule.left_rules.Given as goal

abbrev pub invariant-loop-instance : goal.invariant-loop-instance
invariant-loop-instance l = AreAllLeft l.base (take l.instance-index l.instances) l.rules.items
