use Rattle.std.proofs.lemmas.List.{take_all}
use Rattle.ms_ctxground.proofs.Front.{take_read}
use Rattle.ms_ctxground.proofs.Numbered.{AreFound-skip, AreFound-more, AreNumbersOf-from_found}
use Rattle.ms_ctxground.proofs.numbers.numbers_of_known.Goals as goal
use Rattle.ms_ctxground.proofs.numbers.numbers_of_known.Goals.{in-Some+in_ok-push, in_default}

pub loop-name-preserved : goal.loop-name-preserved
loop-name-preserved c =
    let grown = take_read c.args.names.now c.loop-name.name-index c.name-item.result c.loop-name-test.true c.name-item.is in
    elim c.match-find.branch [
      | in-Some+in_ok-push w ↦ rw (grown, w.numbers-is, w.in_ok-push.ensures.items) (AreFound-more _ c.loop-name.invariant _ w.in-Some.ensures)
      | in_default w ↦ rw (grown, w.numbers-is) (AreFound-skip _ c.loop-name.invariant w.in_default.ensures)
    ]

pub returns : goal.returns
returns c =
    let found = rw (take_all _ c.args.names.now c.loop-name-test.false) at c.loop-name.invariant in
    AreNumbersOf-from_found _ _ _ _ found c.each_once.ensures
