use Rattle.ms_refutation.proofs.Found.{entries_derived}
use Rattle.ms_refutation.proofs.entries_follow_from_decisions.Goals as goal

pub returns : goal.returns
returns c = entries_derived
