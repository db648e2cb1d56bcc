use Rattle.ms_complete.proofs.Released.{are_of_released}
use Rattle.ms_complete.proofs.steps.release_completes.Goals as goal

pub returns : goal.returns
returns c = are_of_released
