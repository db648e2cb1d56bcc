use Rattle.ms_solver.proofs.Lasting.{stored_is_consequence}
use Rattle.ms_solver.proofs.laws.stored_is_consequence.Goals as goal

pub returns : goal.returns
returns c = stored_is_consequence c.nogoods_are_consequences.ensures
