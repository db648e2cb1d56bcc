use Rattle.ms_unfound.proofs.InputLoops.{release_keeps_loops}
use Rattle.ms_unfound.proofs.laws.release_keeps_loops.Goals as goal

pub returns : goal.returns
returns c = release_keeps_loops
