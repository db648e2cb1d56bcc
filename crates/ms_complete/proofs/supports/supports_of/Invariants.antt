use Rattle.std.proofs.Common.{take}
use Rattle.ms_complete.specs.Rules.{AreSupports}
use Rattle.ms_complete.proofs.supports.supports_of.Given as goal

abbrev pub invariant-loop-rule : goal.invariant-loop-rule
invariant-loop-rule l = AreSupports (take l.rule-index l.rules) l.supports.items
