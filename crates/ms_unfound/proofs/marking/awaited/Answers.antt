use Rattle.ms_unfound.proofs.WaitLaws.{awaited_from}
use Rattle.ms_unfound.proofs.marking.awaited.Goals as goal

pub returns-in-None : goal.returns-in-None
returns-in-None c = awaited_from c.args.marked.now c.args.places.now c.unmarked_from-in-None.result c.unmarked_from-in-None.ensures
