use Rattle.std.proofs.Common.{take}
use Rattle.ms_join.specs.Modules.{IsOutput}
use Rattle.ms_module.specs.Faults.{AreThose}
use Rattle.ms_module.proofs.join.Join.member_outputs.Given as goal

abbrev pub invariant-loop-place : goal.invariant-loop-place
invariant-loop-place l = AreThose (take l.place l.cone.members) (IsOutput l.self) l.found.items
