use Rattle.ms_refutation.proofs.Found.{found_contains_none}
use Rattle.ms_refutation.proofs.what_is_found_contains_none.Goals as goal

pub returns : goal.returns
returns c = found_contains_none
