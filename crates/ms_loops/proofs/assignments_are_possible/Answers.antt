use Rattle.ms_loops.proofs.Assigning.{ext_contains_none, truths_are}
use Rattle.ms_loops.proofs.Founding.{possible_from_founded}
use Rattle.ms_loops.proofs.Nogoods.{founded_from_none}
use Rattle.ms_loops.proofs.assignments_are_possible.Goals as goal

pub returns : goal.returns
returns c = λ j things truths set is are over agrees none. (
  possible_from_founded j set is over (founded_from_none j things set is are (ext_contains_none j things truths set are agrees none)),
  truths_are j things truths set are agrees none,
)
