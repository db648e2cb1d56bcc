use Rattle.ms_unfound.proofs.Admitted.{admitted_by}
use Rattle.ms_unfound.proofs.laws.admitted_is_possible.Goals as goal

pub returns : goal.returns
returns c = admitted_by c.assignments_are_possible.ensures
