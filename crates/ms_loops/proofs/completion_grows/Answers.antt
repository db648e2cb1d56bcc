use Rattle.ms_loops.proofs.Growing.{completion_grows}
use Rattle.ms_loops.proofs.completion_grows.Goals as goal

pub returns : goal.returns
returns c = completion_grows
