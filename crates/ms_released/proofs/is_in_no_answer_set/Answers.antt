use Rattle.ms_released.proofs.Sets.{in_no_answer_set}
use Rattle.ms_released.proofs.is_in_no_answer_set.Goals as goal

pub returns : goal.returns
returns c = in_no_answer_set
