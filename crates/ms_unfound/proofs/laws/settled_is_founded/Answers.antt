use Rattle.ms_unfound.proofs.TakeLaws.{settled_is_founded}
use Rattle.ms_unfound.proofs.laws.settled_is_founded.Goals as goal

pub returns : goal.returns
returns c = settled_is_founded
