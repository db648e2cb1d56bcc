use Rattle.std.proofs.Common.{◌+◌, get_or, subst, sym, take}
use Rattle.std.proofs.lemmas.List.{get_or_default}
use Rattle.ms_unfound.specs.Taking.{AreVars}
use Rattle.ms_unfound.proofs.SupportLaws.{vars_more}
use Rattle.ms_unfound.proofs.taking.vars_of.Goals as goal

pub loop-a-preserved : goal.loop-a-preserved
loop-a-preserved c =
    let things = c.args.c.now.things in
    let atoms = c.args.atoms.now in
    let i = c.loop-a.a-index in
    subst (AreVars things (take (i + 1) atoms)) (sym c.in_ok-push.ensures.ok)
    (vars_more things atoms c.loop-a.vars i (get_or atoms i 0) c.thing_of.result c.loop-a-test.true (get_or_default atoms i 0 (get_or atoms i 0) c.loop-a-test.true) c.loop-a.invariant c.thing_of.ensures)
