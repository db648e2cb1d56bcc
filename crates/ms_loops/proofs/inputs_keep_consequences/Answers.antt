use Rattle.ms_loops.proofs.Staying.{inputs_keep}
use Rattle.ms_loops.proofs.inputs_keep_consequences.Goals as goal

pub returns : goal.returns
returns c = inputs_keep
