use Rattle.ms_refutation.specs.Sets.{Passes}
use Rattle.ms_refutation.proofs.Found.{new_more}
use Rattle.ms_refutation.proofs.newness_lasts.Goals as goal

pub returns : goal.returns
returns c = λ small large. new_more (Passes small) (Passes large)
