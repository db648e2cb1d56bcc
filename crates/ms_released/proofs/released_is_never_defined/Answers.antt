use Rattle.ms_released.proofs.Seen.{never_defined}
use Rattle.ms_released.proofs.released_is_never_defined.Goals as goal

pub returns : goal.returns
returns c = never_defined
