use Rattle.ms_inc.proofs.Telling.{made_when_wanted, wanted_before}
use Rattle.ms_inc.proofs.laws.turns_are_made_by_need.Goals as goal

pub returns : goal.returns
returns c = λ plan told t. ((λ below k within. wanted_before plan told t k below within), made_when_wanted plan told t)
