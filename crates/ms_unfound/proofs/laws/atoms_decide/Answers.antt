use Rattle.ms_unfound.proofs.Admitted.{decided_by}
use Rattle.ms_unfound.proofs.laws.atoms_decide.Goals as goal

pub returns : goal.returns
returns c = decided_by c.assignments_are_possible.ensures
