use Rattle.std.proofs.Common.{subst, sym, List, []}
use Rattle.std.specs.List.{Any}
use Rattle.std.proofs.lemmas.List.{take_all}
use Rattle.ms_join.specs.declared.ground_rule.GroundRule.{GroundRule}
use Rattle.ms_complete.specs.declared.key.NumberedRule.{NumberedRule}
use Rattle.ms_complete.specs.Numbering.{IsOfRule}
use Rattle.ms_complete.specs.Rules.{IsNumbered}
use Rattle.ms_complete.specs.Sets.{Match}
use Rattle.ms_complete.proofs.NumberLaws.{declares_none, rules_declare_next, rules_next, match_none}
use Rattle.ms_complete.proofs.complete.Complete.number_rules.Goals as goal

pub loop-rule-init : goal.loop-rule-init
loop-rule-init c = record { declares = declares_none c.args.self.now (λ t. Any (λ rule. IsOfRule rule t) c.args.rules.now); paired = subst (λ (ns : List NumberedRule). Match (IsNumbered c.args.self.now.things) [] ns) (sym c.in_ok-numbered.ensures.items) (match_none (IsNumbered c.args.self.now.things)) }

pub loop-rule-preserved : goal.loop-rule-preserved
loop-rule-preserved c = record {
  declares = rules_declare_next c.args.self.now c.loop-rule.self c.number_rule.new.self c.args.rules.now c.loop-rule.rule-index c.rule-item.result c.loop-rule-test.true c.rule-item.is
      c.loop-rule.invariant.declares c.in_ok-next.ensures.declares;
  paired = rules_next c.loop-rule.self c.number_rule.new.self c.args.rules.now c.loop-rule.numbered.items c.push.new.self.items c.loop-rule.rule-index c.rule-item.result c.in_ok-next.next c.loop-rule-test.true c.rule-item.is
      c.loop-rule.invariant.paired c.in_ok-next.ensures.declares c.in_ok-next.ensures.numbered c.in_ok-push.ensures.items;
}

pub returns-clause-numbered : goal.returns-clause-numbered
returns-clause-numbered c = subst (λ (rules : List GroundRule). Match (IsNumbered c.loop-rule.self.things) rules c.loop-rule.numbered.items) (take_all c.loop-rule.rule-index c.args.rules.now c.loop-rule-test.false) c.loop-rule.invariant.paired
