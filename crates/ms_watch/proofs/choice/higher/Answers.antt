use Rattle.std.proofs.Common.{Some, subst, sym}
use Rattle.ms_watch.specs.Choices.{TellsTop}
use Rattle.ms_watch.proofs.Choices.{top_stays, top_rises, top_first}
use Rattle.ms_watch.proofs.choice.higher.Goals as goal

pub returns-then-level_of : goal.returns-then-level_of
returns-then-level_of c seen top =
    top_stays c.args.trail.now seen c.in-Some.old c.args.lit c.level_of-in-Some.result c.level_of.result c.requires.assignment c.requires.holds c.level_of-in-Some.ensures c.level_of.ensures c.if-level_of.true
    (subst (TellsTop c.args.trail.now.entries seen) c.in-Some.is top)

pub returns-else-level_of : goal.returns-else-level_of
returns-else-level_of c seen top =
    top_rises c.args.trail.now seen c.in-Some.old c.args.lit c.level_of-in-Some.result c.level_of.result c.requires.assignment c.requires.holds c.level_of-in-Some.ensures c.level_of.ensures c.if-level_of.false
    (subst (TellsTop c.args.trail.now.entries seen) c.in-Some.is top)

pub returns-in-None : goal.returns-in-None
returns-in-None c seen top =
    top_first c.args.trail.now.entries seen c.args.lit c.requires.holds (subst (TellsTop c.args.trail.now.entries seen) c.in-None.is top)
