use Rattle.std.proofs.Common.{take}
use Rattle.ms_session.specs.Assuming.{AreExactly, IsValue}
use Rattle.ms_session.proofs.solving.values.Given as goal

abbrev pub invariant-loop-input : goal.invariant-loop-input
invariant-loop-input l = AreExactly (IsValue (take l.input-index l.inputs)) l.lits.items
