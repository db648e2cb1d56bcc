use Rattle.std.proofs.Common.{◌<◌, length, ap, arith}
use Rattle.ms_rules.specs.Flags.{flag_at}
use Rattle.ms_rules.proofs.LeastModel.{outside_is_no_model}
use Rattle.ms_rules.proofs.Passing.{IsPassing-keep, IsPassing-mark}
use Rattle.ms_rules.proofs.least_model.pass.Goals as goal
use Rattle.ms_rules.proofs.least_model.pass.Goals.{in-Some+else-not-is_marked, in_default}

pub returns-then-not-is_marked-clause-progress : goal.returns-then-not-is_marked-clause-progress
returns-then-not-is_marked-clause-progress c =
    outside_is_no_model c.args.join.now (flag_at c.args.in_set.now) (flag_at c.loop-rule.derived) c.loop-rule.rule-index c.rule-item.result c.in-Some.head (omega (arith, ap length c.as_slice-rules.ensures)) (rw c.as_slice-rules.ensures at c.rule-item.is) c.loop-rule.invariant.marking.within c.in-Some.ensures cc

pub loop-rule-preserved : goal.loop-rule-preserved
loop-rule-preserved c =
    let i = c.loop-rule.rule-index in
    let rule = c.rule-item.result in
    let join = c.args.join.now in
    let lt : i < length join.rules = omega (arith, ap length c.as_slice-rules.ensures) in
    let read = rw c.as_slice-rules.ensures at c.rule-item.is in
    elim c.match-missing_head.branch [
      | in-Some+else-not-is_marked w ↦ IsPassing-mark join i c.args.in_set.now c.args.derived.now c.loop-rule.derived c.match-missing_head.derived c.loop-rule.progress c.match-missing_head.progress rule w.in-Some.head c.loop-rule.invariant lt read c.requires.over_base.rules c.loop-rule.auto.derived w.in-Some.ensures (cc) w.progress-is
      | in_default w ↦ IsPassing-keep join i c.args.in_set.now c.args.derived.now c.loop-rule.derived c.match-missing_head.derived c.loop-rule.progress c.match-missing_head.progress rule c.loop-rule.invariant lt read w.in_default.ensures w.derived-is w.progress-is
    ]
