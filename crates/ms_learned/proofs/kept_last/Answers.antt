use Rattle.ms_learned.proofs.Sound.{kept_last}
use Rattle.ms_learned.proofs.kept_last.Goals as goal

pub returns : goal.returns
returns c = kept_last c.nogoods_are_consequences.ensures
