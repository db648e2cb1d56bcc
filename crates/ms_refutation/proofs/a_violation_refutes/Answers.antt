use Rattle.ms_refutation.proofs.Scans.{violated}
use Rattle.ms_refutation.proofs.a_violation_refutes.Goals as goal

pub returns : goal.returns
returns c = violated
