use Rattle.ms_learned.proofs.Sound.{temporary_follows}
use Rattle.ms_learned.proofs.temporary_follows_answers.Goals as goal

pub returns : goal.returns
returns c = temporary_follows
