use Rattle.ms_inc.proofs.Telling.{counted}
use Rattle.ms_inc.proofs.laws.turns_count_up.Goals as goal

pub returns : goal.returns
returns c = counted
