use Rattle.ms_module.specs.Names.{names_of}
use Rattle.ms_module.proofs.Leasts.{best_more}
use Rattle.ms_module.proofs.least.least.Goals as goal

pub loop-a-preserved : goal.loop-a-preserved
loop-a-preserved c =
    best_more (names_of c.args.terms.now c.args.base.now) c.args.atoms.now c.loop-a.a-index c.a-item.result c.loop-a.best c.lesser-best.result c.loop-a.invariant
    c.loop-a-test.true c.a-item.is c.lesser-best.ensures
