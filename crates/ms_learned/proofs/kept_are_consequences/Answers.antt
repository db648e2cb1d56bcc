use Rattle.ms_learned.proofs.Sound.{kept_are_consequences}
use Rattle.ms_learned.proofs.kept_are_consequences.Goals as goal

pub returns : goal.returns
returns c = kept_are_consequences c.nogoods_are_consequences.ensures
