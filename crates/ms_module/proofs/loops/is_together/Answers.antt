use Rattle.ms_module.proofs.ConeLoops.{numbers_same}
use Rattle.ms_module.proofs.loops.is_together.Goals as goal

pub returns : goal.returns
returns c = numbers_same c.component.result c.component-2.result _ _ c.eq.result c.eq.ensures c.component.ensures c.component-2.ensures
