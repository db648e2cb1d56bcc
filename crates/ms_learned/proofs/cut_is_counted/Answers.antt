use Rattle.ms_learned.proofs.Sound.{cut_is_counted}
use Rattle.ms_learned.proofs.cut_is_counted.Goals as goal

pub returns : goal.returns
returns c = cut_is_counted
