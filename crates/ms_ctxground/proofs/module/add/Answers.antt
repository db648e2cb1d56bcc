use Rattle.std.proofs.lemmas.List.{append_assoc}
use Rattle.ms_ctxground.proofs.Front.{take_read, absent_at}
use Rattle.ms_ctxground.proofs.module.add.Goals as goal

pub loop-name-preserved : goal.loop-name-preserved
loop-name-preserved c =
    let t = c.name-item.result in
    let grown = take_read c.args.names.now c.loop-name.name-index t c.loop-name-test.true c.name-item.is in
    let absent = absent_at c.args.base.now c.args.names.now c.loop-name.name-index t c.loop-name-test.true c.name-item.is c.requires.new c.requires.different in
    let added = (c.in_ok-intern.ensures.ok.added (rw c.loop-name.invariant absent)).0 in
    rw (grown, added, c.loop-name.invariant, append_assoc)
