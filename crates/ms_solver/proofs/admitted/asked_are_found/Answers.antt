use Rattle.ms_solver.proofs.Assignments.{asked_are_found}
use Rattle.ms_solver.proofs.admitted.asked_are_found.Goals as goal

pub returns : goal.returns
returns c = asked_are_found c.completion_and_loops.ensures
