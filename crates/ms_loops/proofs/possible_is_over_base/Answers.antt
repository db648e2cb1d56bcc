use Rattle.ms_loops.proofs.Unfounded.{possible_over_base}
use Rattle.ms_loops.proofs.possible_is_over_base.Goals as goal

pub returns : goal.returns
returns c = possible_over_base
