use Rattle.ms_refutation.proofs.Found.{calm_added}
use Rattle.ms_refutation.proofs.a_calm_nogood_keeps_settled.Goals as goal

pub returns : goal.returns
returns c = calm_added
