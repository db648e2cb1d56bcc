use Rattle.ms_learned.proofs.Sound.{logged_last}
use Rattle.ms_learned.proofs.logged_last.Goals as goal

pub returns : goal.returns
returns c = logged_last c.nogoods_are_consequences.ensures
