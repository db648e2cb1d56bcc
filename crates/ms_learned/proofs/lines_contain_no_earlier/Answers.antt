use Rattle.ms_learned.proofs.Sound.{contain_no_earlier}
use Rattle.ms_learned.proofs.lines_contain_no_earlier.Goals as goal

pub returns : goal.returns
returns c = contain_no_earlier
