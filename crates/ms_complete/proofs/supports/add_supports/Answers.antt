use Rattle.ms_complete.specs.Rules.{HeadSays}
use Rattle.ms_complete.proofs.Adding.{none_added, one_added_at, all_added}
use Rattle.ms_complete.proofs.supports.add_supports.Goals as goal

pub loop-head-init : goal.loop-head-init
loop-head-init c = none_added (HeadSays c.args.supports.now) c.args.heads.now c.args.store.now

pub loop-head-preserved : goal.loop-head-preserved
loop-head-preserved c =
    let heads = c.args.heads.now in
    let i = c.loop-head.head-index in
    one_added_at (HeadSays c.args.supports.now) heads i 0 c.args.store.now c.loop-head.store c.add_head.new.store c.loop-head-test.true
    c.loop-head.invariant c.in_ok-add_head.ensures

pub returns : goal.returns
returns c = all_added (HeadSays c.args.supports.now) c.args.heads.now c.loop-head.head-index c.args.store.now c.loop-head.store c.loop-head-test.false c.loop-head.invariant
