use Rattle.std.proofs.Common.{◌+◌, take, Vec, Global, List, [], ap, sym, subst, rules}
use Rattle.std.proofs.lemmas.List.{take_all}
use Rattle.std.proofs.lemmas.List.Sorted.{IsNonDecreasingBy-from_sort_by_key}
use Rattle.ms_complete.specs.declared.key.NumberedRule.{NumberedRule}
use Rattle.ms_complete.specs.declared.key.Support.{Support}
use Rattle.ms_complete.specs.Rules.{AreSupports}
use Rattle.ms_complete.proofs.SupportLaws.{supports_none, supports_same_at, supports_more_at, supports_moved}
use Rattle.ms_complete.proofs.supports.supports_of.Goals as goal
use Rattle.ms_complete.proofs.supports.supports_of.Goals.{in-Some+in_ok-push-in-Some, in-None}

pub loop-rule-init : goal.loop-rule-init
loop-rule-init c = subst (λ (ss : List Support). AreSupports [] ss) (sym c.in_ok-supports.ensures.items) supports_none

pub loop-rule-preserved : goal.loop-rule-preserved
loop-rule-preserved c = elim c.match-rule.branch [
  | in-None w ↦ subst (λ (ss : List Support). AreSupports (take (c.loop-rule.rule-index + 1) c.args.rules.now) ss) (sym (ap (λ (v : Vec Support Global). v.items) w.supports-is))
      (supports_same_at c.args.rules.now c.loop-rule.supports.items c.loop-rule.rule-index _ c.loop-rule-test.true w.in-None.is c.loop-rule.invariant)
  | in-Some+in_ok-push-in-Some w ↦ subst (λ (ss : List Support). AreSupports (take (c.loop-rule.rule-index + 1) c.args.rules.now) ss) (sym (ap (λ (v : Vec Support Global). v.items) w.supports-is))
      (supports_more_at c.args.rules.now c.loop-rule.supports.items w.push.new.self.items c.loop-rule.rule-index _ w.in-Some.head c.loop-rule-test.true w.in-Some.is c.loop-rule.invariant w.in_ok-push-in-Some.ensures.items)
]

pub returns-clause-supports : goal.returns-clause-supports
returns-clause-supports c =
    supports_moved c.args.rules.now c.loop-rule.supports.items c.sort_unstable_by_key.new.self.items c.sort_unstable_by_key.ensures.permutation
    (subst (λ (rs : List NumberedRule). AreSupports rs c.loop-rule.supports.items) (take_all c.loop-rule.rule-index c.args.rules.now c.loop-rule-test.false) c.loop-rule.invariant)

pub returns-clause-sorted : goal.returns-clause-sorted
returns-clause-sorted c = IsNonDecreasingBy-from_sort_by_key (λ (s : Support). s.head) _ c.sort_unstable_by_key.ensures.sorted (λ a r q k. search rules)
