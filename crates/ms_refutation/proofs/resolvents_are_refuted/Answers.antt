use Rattle.ms_refutation.specs.Sets.{Passes}
use Rattle.ms_refutation.proofs.Laws.{resolvent_refuted}
use Rattle.ms_refutation.proofs.resolvents_are_refuted.Goals as goal

pub returns : goal.returns
returns c = λ nogoods. resolvent_refuted (Passes nogoods)
