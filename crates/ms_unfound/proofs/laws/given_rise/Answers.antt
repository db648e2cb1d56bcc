use Rattle.ms_unfound.proofs.Admitted.{given_rise}
use Rattle.ms_unfound.proofs.laws.given_rise.Goals as goal

pub returns : goal.returns
returns c = given_rise
