use Rattle.ms_complete.specs.Rules.{RuleSays}
use Rattle.ms_complete.proofs.Adding.{none_added, one_added_at, all_added}
use Rattle.ms_complete.proofs.nogoods.add_rules.Goals as goal

pub loop-rule-init : goal.loop-rule-init
loop-rule-init c = none_added RuleSays c.args.rules.now c.args.store.now

pub loop-rule-preserved : goal.loop-rule-preserved
loop-rule-preserved c =
    one_added_at RuleSays c.args.rules.now c.loop-rule.rule-index _ c.args.store.now c.loop-rule.store c.add_rule.new.store c.loop-rule-test.true c.loop-rule.invariant c.in_ok-add_rule.ensures

pub returns : goal.returns
returns c = all_added RuleSays c.args.rules.now c.loop-rule.rule-index c.args.store.now c.loop-rule.store c.loop-rule-test.false c.loop-rule.invariant
