use Rattle.ms_refutation.proofs.Scans.{settled}
use Rattle.ms_refutation.proofs.a_settled_end_refutes_nothing.Goals as goal

pub returns : goal.returns
returns c = settled
