use Rattle.ms_solver.proofs.Assignments.{atoms_decide}
use Rattle.ms_solver.proofs.admitted.atoms_decide.Goals as goal

pub returns : goal.returns
returns c = atoms_decide c.assignments_are_possible.ensures
