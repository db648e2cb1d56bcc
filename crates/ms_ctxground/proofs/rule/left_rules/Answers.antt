use Rattle.std.proofs.Common.{ap, sym, ◌∙◌}
use Rattle.ms_ctxground.proofs.Front.{take_read}
use Rattle.ms_ctxground.proofs.Rules.{AreAllLeft-more, AreAllLeft-skip}
use Rattle.ms_ctxground.proofs.rule.left_rules.Goals as goal
use Rattle.ms_ctxground.proofs.rule.left_rules.Goals.{in-Some+in_ok-push, in_default}

pub loop-instance-preserved : goal.loop-instance-preserved
loop-instance-preserved c =
    let grown = take_read c.args.instances.now c.loop-instance.instance-index c.instance-item.result c.loop-instance-test.true c.instance-item.is in
    elim c.match-branch-2.branch [
      | in-Some+in_ok-push w ↦
          rw (grown, w.rules-is, w.in_ok-push.ensures.items)
          (AreAllLeft-more _ c.loop-instance.invariant _ (rw w.in-Some.is at c.in_ok-rule.ensures))
      | in_default w ↦ rw (grown, w.rules-is) (AreAllLeft-skip _ c.loop-instance.invariant (rw w.in_default.is at c.in_ok-rule.ensures))
    ]

pub left_rule-requires : goal.left_rule-requires
left_rule-requires c = λ x e. c.requires c.loop-instance.instance-index c.instance-item.result c.loop-instance-test.true x (ap (λ i. i.head) (sym c.instance-item.is) ∙ e)
