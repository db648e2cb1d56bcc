use Rattle.ms_possible.proofs.FreeSets.{answer_is_possible}
use Rattle.ms_possible.proofs.answers_are_possible.Goals as goal

pub returns : goal.returns
returns c = answer_is_possible
