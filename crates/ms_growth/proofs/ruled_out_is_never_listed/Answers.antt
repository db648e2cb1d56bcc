use Rattle.ms_growth.proofs.Listed.{never_listed}
use Rattle.ms_growth.proofs.ruled_out_is_never_listed.Goals as goal

pub returns : goal.returns
returns c = never_listed
