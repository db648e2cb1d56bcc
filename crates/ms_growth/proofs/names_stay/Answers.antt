use Rattle.ms_growth.proofs.Running.{names_kept}
use Rattle.ms_growth.proofs.names_stay.Goals as goal

pub returns : goal.returns
returns c = names_kept
