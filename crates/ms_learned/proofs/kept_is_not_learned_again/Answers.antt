use Rattle.ms_learned.proofs.Sound.{not_learned_again}
use Rattle.ms_learned.proofs.kept_is_not_learned_again.Goals as goal

pub returns : goal.returns
returns c = not_learned_again
