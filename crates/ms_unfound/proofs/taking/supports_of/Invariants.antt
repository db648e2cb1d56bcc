use Rattle.std.proofs.Common.{take}
use Rattle.ms_unfound.specs.Taking.{AreSupports}
use Rattle.ms_unfound.proofs.taking.supports_of.Given as goal

abbrev pub invariant-loop-rule : goal.invariant-loop-rule
invariant-loop-rule l = AreSupports l.c.things l.members (take l.rule-index l.rules) l.supports
