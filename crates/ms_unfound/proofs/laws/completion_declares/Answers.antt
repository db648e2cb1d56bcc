use Rattle.ms_unfound.proofs.WithCompletion.{completion_declares}
use Rattle.ms_unfound.proofs.laws.completion_declares.Goals as goal

pub returns : goal.returns
returns c = completion_declares
