use Rattle.ms_released.proofs.Seen.{no_input}
use Rattle.ms_released.proofs.released_is_no_input.Goals as goal

pub returns : goal.returns
returns c = no_input
