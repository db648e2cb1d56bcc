use Rattle.ms_learned.proofs.Sound.{longer_run}
use Rattle.ms_learned.proofs.things_keep_their_numbers.Goals as goal

pub returns : goal.returns
returns c = longer_run
