use Rattle.ms_unfound.proofs.Admitted.{same_keeps_loops}
use Rattle.ms_unfound.proofs.laws.same_keeps_loops.Goals as goal

pub returns : goal.returns
returns c = same_keeps_loops
