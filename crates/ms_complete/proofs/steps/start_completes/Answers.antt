use Rattle.ms_complete.proofs.Assigned.{are_of_none}
use Rattle.ms_complete.proofs.steps.start_completes.Goals as goal

pub returns : goal.returns
returns c = are_of_none
