use Rattle.ms_released.proofs.Seen.{never_listed}
use Rattle.ms_released.proofs.released_is_never_listed.Goals as goal

pub returns : goal.returns
returns c = never_listed
