use Rattle.ms_solver.proofs.Values.{values_are_assumed}
use Rattle.ms_solver.proofs.laws.values_are_assumed.Goals as goal

pub returns : goal.returns
returns c = values_are_assumed
