use Rattle.ms_released.proofs.Staying.{stays_false}
use Rattle.ms_released.proofs.stays_false_for_good.Goals as goal

pub returns : goal.returns
returns c = stays_false
