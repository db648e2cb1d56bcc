use Rattle.ms_refutation.proofs.Laws.{jump}
use Rattle.ms_refutation.proofs.jumps_keep_closed_prefixes.Goals as goal

pub returns : goal.returns
returns c = jump
