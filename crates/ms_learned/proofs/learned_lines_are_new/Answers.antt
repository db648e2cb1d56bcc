use Rattle.ms_learned.proofs.Sound.{lines_are_new}
use Rattle.ms_learned.proofs.learned_lines_are_new.Goals as goal

pub returns : goal.returns
returns c = lines_are_new
