use Rattle.ms_unfound.proofs.InputLoops.{assign_keeps_loops}
use Rattle.ms_unfound.proofs.laws.assign_keeps_loops.Goals as goal

pub returns : goal.returns
returns c = assign_keeps_loops
