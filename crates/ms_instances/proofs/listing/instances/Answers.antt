use Rattle.std.proofs.Common.{sym, subst, List}
use Rattle.ms_instances.specs.declared.instance.Instance.{Instance}
use Rattle.ms_instances.specs.Listing.{all_said}
use Rattle.ms_instances.specs.Naming.{AreInstances}
use Rattle.ms_instances.proofs.Adding.{refuses_more, refused, count_rule, all_are_said, all_headed}
use Rattle.ms_instances.proofs.listing.instances.Goals as goal

pub returns-in_err-add_rule-clause-err : goal.returns-in_err-add_rule-clause-err
returns-in_err-add_rule-clause-err c =
    refused c.from_residual.result c.in_err-add_rule.field-0.0 _ c.from_residual.ensures.1
    (refuses_more c.args.terms.now c.loop-rule.terms c.add_rule.new.terms _ _ c.in_err-add_rule.field-0.0
    c.loop-rule.invariant.keeps
    (count_rule c.loop-rule.terms c.loop-rule.list.items c.args.rules.now c.loop-rule.rule-index c.rule-item.result c.loop-rule-test.true c.rule-item.is c.loop-rule.invariant.say)
    c.in_err-add_rule.ensures.err)

pub returns-clause-ok : goal.returns-clause-ok
returns-clause-ok c =
    let table = c.loop-rule.terms in
    let say = all_are_said table c.loop-rule.list.items c.args.rules.now c.loop-rule.rule-index c.loop-rule-test.false c.loop-rule.invariant.say in
    subst (λ (list : List Instance). AreInstances c.args.terms.now table c.args.rules.now (all_said c.args.rules.now) list) (sym c.from_vec.ensures)
    (record {
      keeps = c.loop-rule.invariant.keeps;
      are = record { named = c.loop-rule.invariant.named; few = c.loop-rule.invariant.few; say = say };
      headed = all_headed table c.loop-rule.list.items c.args.rules.now say;
    })
