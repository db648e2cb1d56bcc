use Rattle.ms_refutation.specs.Sets.{Passes}
use Rattle.ms_refutation.proofs.Laws.{new_contains_none}
use Rattle.ms_refutation.proofs.what_is_new_contains_none.Goals as goal

pub returns : goal.returns
returns c = λ nogoods. new_contains_none (Passes nogoods)
