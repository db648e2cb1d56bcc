use Rattle.ms_inc.proofs.Telling.{ended_from}
use Rattle.ms_inc.proofs.laws.an_ended_loop_stays_ended.Goals as goal

pub returns : goal.returns
returns c = λ plan. ended_from plan 0
