use Rattle.ms_released.proofs.Staying.{no_new_head}
use Rattle.ms_released.proofs.cannot_be_defined_again.Goals as goal

pub returns : goal.returns
returns c = no_new_head
