use Rattle.std.proofs.Common.{take}
use Rattle.ms_module.specs.Inputs.{Declares}
use Rattle.ms_module.proofs.state.State.declare.Given as goal

abbrev pub invariant-loop-a : goal.invariant-loop-a
invariant-loop-a l = Declares l.fn.self l.first (take l.a-index l.atoms) l.self
