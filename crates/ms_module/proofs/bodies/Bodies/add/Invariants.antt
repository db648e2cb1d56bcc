use Rattle.std.proofs.Common.{take}
use Rattle.ms_module.specs.Bodies.{AddsBodies}
use Rattle.ms_module.proofs.bodies.Bodies.add.Given as goal

abbrev pub invariant-loop-rule : goal.invariant-loop-rule
invariant-loop-rule l = AddsBodies l.fn.self (take l.rule-index l.rules) l.self
