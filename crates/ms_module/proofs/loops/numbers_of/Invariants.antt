use Rattle.std.proofs.Common.{take}
use Rattle.ms_module.specs.Faults.{AreNumbersOf}
use Rattle.ms_module.proofs.loops.numbers_of.Given as goal

abbrev pub invariant-loop-a : goal.invariant-loop-a
invariant-loop-a l = AreNumbersOf l.cone (take l.a-index l.atoms) l.numbers.keys
