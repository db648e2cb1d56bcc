use Rattle.ms_loops.proofs.Staying.{consequences_stay}
use Rattle.ms_loops.proofs.consequences_stay.Goals as goal

pub returns : goal.returns
returns c = consequences_stay
