use Rattle.ms_unfound.proofs.WithCompletion.{taken_with_completion}
use Rattle.ms_unfound.proofs.laws.taken_with_completion.Goals as goal

pub returns : goal.returns
returns c = taken_with_completion
