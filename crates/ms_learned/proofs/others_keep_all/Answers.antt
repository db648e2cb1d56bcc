use Rattle.ms_learned.proofs.Sound.{others_keep_all}
use Rattle.ms_learned.proofs.others_keep_all.Goals as goal

pub returns : goal.returns
returns c = others_keep_all
