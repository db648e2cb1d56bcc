use Rattle.ms_learned.proofs.Sound.{temporary_rests}
use Rattle.ms_learned.proofs.temporary_rests_on_answers.Goals as goal

pub returns : goal.returns
returns c = temporary_rests c.nogoods_are_consequences.ensures
