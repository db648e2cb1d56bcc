use Rattle.ms_released.proofs.Reaching.{release_is_for_good}
use Rattle.ms_released.proofs.released_is_false_for_good.Goals as goal

pub returns : goal.returns
returns c = release_is_for_good
