use Rattle.std.proofs.Common.{subst, sym, List}
use Rattle.ms_join.specs.declared.ground_rule.GroundRule.{GroundRule}
use Rattle.ms_module.specs.Bodies.{AddsBodies}
use Rattle.ms_module.proofs.BodyLaws.{AddsBodies-append, AddsBodies-none, next_rule}
use Rattle.ms_module.proofs.bodies.Bodies.add.Goals as goal

pub loop-rule-init : goal.loop-rule-init
loop-rule-init c = AddsBodies-none c.args.self.now

pub loop-rule-preserved : goal.loop-rule-preserved
loop-rule-preserved c =
    subst (λ (rules : List GroundRule). AddsBodies c.args.self.now rules c.add_one.new.self)
    (sym (next_rule c.args.rules.now c.loop-rule.rule-index c.rule-item.result c.loop-rule-test.true c.rule-item.is))
    (AddsBodies-append _ _ _ _ _ c.loop-rule.invariant c.in_ok-add_one.ensures)
