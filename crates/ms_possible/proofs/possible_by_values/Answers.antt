use Rattle.ms_possible.proofs.FreeSets.{by_values}
use Rattle.ms_possible.proofs.possible_by_values.Goals as goal

pub returns : goal.returns
returns c = by_values
