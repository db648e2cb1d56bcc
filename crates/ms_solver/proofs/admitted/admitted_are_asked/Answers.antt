use Rattle.ms_solver.proofs.Assignments.{admitted_are_asked}
use Rattle.ms_solver.proofs.admitted.admitted_are_asked.Goals as goal

pub returns : goal.returns
returns c = admitted_are_asked c.assignments_are_possible.ensures
