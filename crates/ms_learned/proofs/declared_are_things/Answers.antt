use Rattle.ms_learned.proofs.Sound.{declared_are_things}
use Rattle.ms_learned.proofs.declared_are_things.Goals as goal

pub returns : goal.returns
returns c = declared_are_things c.nogoods_are_consequences.ensures
