use Rattle.std.proofs.Common.{◌∙◌, ◌+◌, List, subst, sym, take}
use Rattle.std.specs.List.{Contains}
use Rattle.ms_join.specs.declared.ground_rule.GroundRule.{GroundRule}
use Rattle.ms_join.specs.Things.{body_of}
use Rattle.ms_join.specs.Things.Thing.{body}
use Rattle.ms_unfound.specs.declared.part.Support.{Support}
use Rattle.ms_unfound.specs.Taking.{AreSupports}
use Rattle.ms_unfound.proofs.SupportLaws.{supports_keep, supports_more}
use Rattle.ms_unfound.proofs.taking.supports_of.Goals as goal
use Rattle.ms_unfound.proofs.taking.supports_of.Goals.{in-Some+in_ok-support+in_ok-push, in_default}

pub support_at-requires-clause-body : goal.support_at-requires-clause-body
support_at-requires-clause-body c =
    subst (λ (r : GroundRule). Contains c.args.c.now.things (body (body_of r))) (sym c.rule-item.is) (c.requires.bodies c.loop-rule.rule-index c.rule-item.result c.loop-rule-test.true)

pub loop-rule-preserved : goal.loop-rule-preserved
loop-rule-preserved c =
    let things = c.args.c.now.things in
    let m = c.args.members.now in
    let rules = c.args.rules.now in
    let i = c.loop-rule.rule-index in
    elim c.match-head_place.branch [
      | in-Some+in_ok-support+in_ok-push w ↦
          subst (λ (ss : List Support). AreSupports things m (take (i + 1) rules) ss) (sym (w.supports-is ∙ w.in_ok-push.ensures.ok))
          (supports_more things m rules i c.rule-item.result c.loop-rule-test.true c.rule-item.is c.loop-rule.supports c.loop-rule.invariant w.in_ok-support.support w.in_ok-support.ensures)
      | in_default w ↦
          subst (λ (ss : List Support). AreSupports things m (take (i + 1) rules) ss) (sym w.supports-is)
          (supports_keep things m rules i c.rule-item.result c.loop-rule-test.true c.rule-item.is c.loop-rule.supports c.loop-rule.invariant w.in_default.ensures)
    ]
