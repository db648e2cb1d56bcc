use Rattle.ms_lawful.proofs.Parts.{declared_once}
use Rattle.ms_lawful.proofs.things_are_declared_once.Goals as goal

pub returns : goal.returns
returns c = declared_once
