use Rattle.ms_complete.proofs.Assigned.{are_of_assigned}
use Rattle.ms_complete.proofs.steps.assign_completes.Goals as goal

pub returns : goal.returns
returns c = are_of_assigned
