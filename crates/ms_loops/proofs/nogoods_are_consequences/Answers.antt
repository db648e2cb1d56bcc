use Rattle.ms_loops.proofs.Staying.{nogoods_are}
use Rattle.ms_loops.proofs.nogoods_are_consequences.Goals as goal

pub returns : goal.returns
returns c = nogoods_are
