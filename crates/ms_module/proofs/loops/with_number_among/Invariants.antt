use Rattle.std.proofs.Common.{take}
use Rattle.ms_module.specs.Faults.{AreThose, HasNumberAmong}
use Rattle.ms_module.proofs.loops.with_number_among.Given as goal

abbrev pub invariant-loop-a : goal.invariant-loop-a
invariant-loop-a l = AreThose (take l.a-index l.atoms) (HasNumberAmong l.cone l.numbers.keys) l.found.items
