use Rattle.ms_unfound.proofs.Admitted.{possible_by}
use Rattle.ms_unfound.proofs.laws.possible_by_given.Goals as goal

pub returns : goal.returns
returns c = possible_by c.completion_and_loops.ensures
