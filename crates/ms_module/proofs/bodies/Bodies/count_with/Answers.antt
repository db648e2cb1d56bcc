use Rattle.std.proofs.Common.{subst, List}
use Rattle.std.proofs.lemmas.List.{take_all}
use Rattle.ms_join.specs.declared.ground_rule.GroundRule.{GroundRule}
use Rattle.ms_module.specs.Bodies.{AreMissing}
use Rattle.ms_module.proofs.BodyLaws.{counted_keys}
use Rattle.ms_module.proofs.bodies.Bodies.count_with.Goals as goal

pub returns : goal.returns
returns c =
    counted_keys c.self.inside.keys.keys c.missing-2.inside.keys.keys c.args.self.now c.loop-rule.missing c.args.rules.now c.len.result c.len-2.result
    c.self.view_is c.missing-2.view_is c.len.ensures.unique c.len-2.ensures.unique c.len.ensures.len c.len-2.ensures.len
    (subst (λ (rules : List GroundRule). AreMissing c.args.self.now rules c.loop-rule.missing)
    (take_all c.loop-rule.rule-index c.args.rules.now c.loop-rule-test.false) c.loop-rule.invariant)
