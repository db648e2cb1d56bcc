use Rattle.ms_learned.proofs.Sound.{last_run}
use Rattle.ms_learned.proofs.kept_are_the_last.Goals as goal

pub returns : goal.returns
returns c = last_run
