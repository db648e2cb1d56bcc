use Rattle.ms_possible.proofs.FreeSets.{assigned_keeps}
use Rattle.ms_possible.proofs.assigned_keeps_the_possible.Goals as goal

pub returns : goal.returns
returns c = assigned_keeps
