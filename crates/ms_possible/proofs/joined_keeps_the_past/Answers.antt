use Rattle.ms_possible.proofs.Joining.{joined_keeps}
use Rattle.ms_possible.proofs.joined_keeps_the_past.Goals as goal

pub returns : goal.returns
returns c = joined_keeps
