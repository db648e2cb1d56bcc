use Rattle.std.proofs.Common.{take, ◌<◌}
use Rattle.ms_module.specs.Faults.{AreThose}
use Rattle.ms_module.proofs.state.State.old_among.Given as goal

abbrev pub invariant-loop-a : goal.invariant-loop-a
invariant-loop-a l = AreThose (take l.a-index l.atoms) (λ a. a < l.self.atoms) l.found.items
