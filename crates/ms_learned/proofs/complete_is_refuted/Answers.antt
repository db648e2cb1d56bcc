use Rattle.ms_learned.proofs.Sound.{complete_is_refuted}
use Rattle.ms_learned.proofs.complete_is_refuted.Goals as goal

pub returns : goal.returns
returns c = complete_is_refuted
