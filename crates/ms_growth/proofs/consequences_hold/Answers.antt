use Rattle.ms_growth.proofs.Running.{consequence_holds}
use Rattle.ms_growth.proofs.consequences_hold.Goals as goal

pub returns : goal.returns
returns c = consequence_holds
