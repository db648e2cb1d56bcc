use Rattle.std.proofs.Common.{take}
use Rattle.ms_join.specs.Modules.{IsOutput}
use Rattle.ms_module.specs.Faults.{AreThose}
use Rattle.ms_module.proofs.join.Join.outputs_among.Given as goal

abbrev pub invariant-loop-a : goal.invariant-loop-a
invariant-loop-a l = AreThose (take l.a-index l.atoms) (IsOutput l.self) l.found.items
