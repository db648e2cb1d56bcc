use Rattle.ms_solver.proofs.Lasting.{learned_lasts}
use Rattle.ms_solver.proofs.laws.learned_lasts.Goals as goal

pub returns : goal.returns
returns c = learned_lasts c.consequences_stay.ensures c.inputs_keep_consequences.ensures
