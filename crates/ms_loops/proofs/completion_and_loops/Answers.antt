use Rattle.ms_loops.proofs.Founding.{possible_from_founded}
use Rattle.ms_loops.proofs.Nogoods.{founded_from_none, none_contained}
use Rattle.ms_loops.proofs.Unfounded.{founded_from_possible}
use Rattle.ms_loops.proofs.completion_and_loops.Goals as goal

pub returns : goal.returns
returns c = λ j things set is are over. (
  λ possible. none_contained j things set (founded_from_possible j set possible),
  λ none. possible_from_founded j set is over (founded_from_none j things set is are none),
)
