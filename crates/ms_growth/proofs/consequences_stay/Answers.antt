use Rattle.ms_growth.proofs.Running.{consequence_stays}
use Rattle.ms_growth.proofs.consequences_stay.Goals as goal

pub returns : goal.returns
returns c = consequence_stays
