use Rattle.ms_ctxground.proofs.Front.{take_read}
use Rattle.ms_ctxground.proofs.Added.{AreAdded-known, AreAdded-more, lacks, has}
use Rattle.ms_ctxground.proofs.new_atoms.add_unknown.Goals as goal
use Rattle.ms_ctxground.proofs.new_atoms.add_unknown.Goals.{then-is_none+in_ok-push, else-is_none}

pub loop-name-preserved : goal.loop-name-preserved
loop-name-preserved c =
    let grown = take_read c.args.names.now c.loop-name.name-index c.name-item.result c.loop-name-test.true c.name-item.is in
    elim c.if-is_none.branch [
      | then-is_none+in_ok-push w ↦
          rw (grown, w.into-is, w.in_ok-push.ensures.items)
          (AreAdded-more _ c.loop-name.invariant (lacks _ _ _ _ c.is_none.ensures w.if-is_none.true c.find.ensures))
      | else-is_none w ↦ rw (grown, w.into-is) (AreAdded-known _ c.loop-name.invariant (has _ _ _ _ c.is_none.ensures w.if-is_none.false c.find.ensures))
    ]
