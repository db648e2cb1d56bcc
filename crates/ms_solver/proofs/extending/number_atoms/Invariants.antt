use Rattle.ms_problem.specs.Numbered.{AreNumbers}
use Rattle.ms_solver.proofs.extending.number_atoms.Given as goal

abbrev pub invariant-loop-a : goal.invariant-loop-a
invariant-loop-a l = AreNumbers l.completion.things l.a l.atoms
