use Rattle.std.proofs.Common.{take}
use Rattle.ms_module.specs.Inputs.{Withdraws}
use Rattle.ms_module.proofs.state.State.withdraw.Given as goal

abbrev pub invariant-loop-a : goal.invariant-loop-a
invariant-loop-a l = Withdraws l.fn.self (take l.a-index l.atoms) l.self
