use Rattle.ms_possible.proofs.FreeSets.{released_keeps}
use Rattle.ms_possible.proofs.released_keeps_the_past.Goals as goal

pub returns : goal.returns
returns c = released_keeps
