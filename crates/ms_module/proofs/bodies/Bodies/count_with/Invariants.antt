use Rattle.std.proofs.Common.{take}
use Rattle.ms_module.specs.Bodies.{AreMissing}
use Rattle.ms_module.proofs.bodies.Bodies.count_with.Given as goal

abbrev pub invariant-loop-rule : goal.invariant-loop-rule
invariant-loop-rule l = AreMissing l.self (take l.rule-index l.rules) l.missing
