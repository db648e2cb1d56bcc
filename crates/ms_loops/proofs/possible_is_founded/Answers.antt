use Rattle.ms_loops.proofs.Founding.{possible_from_founded}
use Rattle.ms_loops.proofs.Unfounded.{founded_from_possible}
use Rattle.ms_loops.proofs.possible_is_founded.Goals as goal

pub returns : goal.returns
returns c = λ j set is over. (founded_from_possible j set, possible_from_founded j set is over)
