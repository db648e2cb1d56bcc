use Rattle.std.proofs.Common.{take}
use Rattle.ms_solver.specs.Extending.{PutsToSleep}
use Rattle.ms_solver.proofs.extending.put_to_sleep.Given as goal

abbrev pub invariant-loop-a : goal.invariant-loop-a
invariant-loop-a l = PutsToSleep l.first (take l.a-index l.externals) l.atoms l.fn.store l.fn.sleepers l.store l.sleepers
