use Rattle.ms_solver.proofs.Lasting.{assigned_is_served}
use Rattle.ms_solver.proofs.laws.assigned_is_served.Goals as goal

pub returns : goal.returns
returns c = assigned_is_served c.inputs_keep_consequences.ensures
