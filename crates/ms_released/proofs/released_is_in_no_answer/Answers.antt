use Rattle.ms_released.proofs.Seen.{in_no_answer}
use Rattle.ms_released.proofs.released_is_in_no_answer.Goals as goal

pub returns : goal.returns
returns c = in_no_answer
