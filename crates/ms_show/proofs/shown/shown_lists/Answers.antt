use Rattle.std.proofs.Common.{◌<◌, length, sym, subst, arith}
use Rattle.std.proofs.lemmas.List.Elements.{All-get_or, all_zip_more}
use Rattle.ms_join.specs.AnswerSets.{IsAtomSet}
use Rattle.ms_machine.specs.Machine.{shows_atom}
use Rattle.ms_show.specs.ShownLists.{IsShownOf}
use Rattle.ms_show.proofs.shown.shown_lists.Goals as goal

pub shown_list-requires-clause-over_base : goal.shown_list-requires-clause-over_base
shown_list-requires-clause-over_base c =
    let here : c.loop-set.set-index < length c.args.sets.now = omega arith in
    subst (IsAtomSet (length c.args.base.now)) (sym c.set-item.is)
    (All-get_or (IsAtomSet (length c.args.base.now)) c.args.sets.now c.loop-set.set-index c.set-item.result here c.requires.over_base)

pub loop-set-preserved : goal.loop-set-preserved
loop-set-preserved c =
    let R = IsShownOf c.args.terms.now (shows_atom c.args.parts.now) c.args.base.now in
    rw c.in_ok-push.ensures.items (all_zip_more R c.args.sets.now c.loop-set.lists.items c.loop-set.set-index c.set-item.result c.in_ok-shown_list.field-0 (omega arith) c.set-item.is c.loop-set.invariant c.in_ok-shown_list.ensures)
