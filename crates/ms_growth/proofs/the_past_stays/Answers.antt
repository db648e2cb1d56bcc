use Rattle.ms_growth.proofs.Running.{past_stays}
use Rattle.ms_growth.proofs.the_past_stays.Goals as goal

pub returns : goal.returns
returns c = past_stays
