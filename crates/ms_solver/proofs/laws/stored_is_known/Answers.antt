use Rattle.ms_solver.proofs.Lasting.{stored_is_known}
use Rattle.ms_solver.proofs.laws.stored_is_known.Goals as goal

pub returns : goal.returns
returns c = stored_is_known
