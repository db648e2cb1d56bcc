use Rattle.std.proofs.Common.{◌+◌, List, [], take, subst, sym}
use Rattle.ms_core.specs.declared.pattern.Pattern.{Pattern}
use Rattle.ms_core.specs.Ranges.{all_ranged}
use Rattle.ms_parts.specs.Makers.{IsMade}
use Rattle.ms_parts.proofs.MakerLaws.{made_no_terms, made_next, made_interval, made_binary}
use Rattle.ms_parts.proofs.ranges.+ranged.Goals as goal

pub all_ranged-loop-term-init : goal.all_ranged-loop-term-init
all_ranged-loop-term-init t c = subst (λ (made : List Pattern). IsMade (all_ranged []) c.args.first c.args.ranges.now made c.args.ranges.now) (sym c.new-made.ensures) (made_no_terms c.args.first c.args.ranges.now)

pub all_ranged-loop-term-preserved : goal.all_ranged-loop-term-preserved
all_ranged-loop-term-preserved t c =
    subst (λ (made : List Pattern). IsMade (all_ranged (take (c.loop-term.term-index + 1) c.args.terms.now)) c.args.first c.args.ranges.now made c.ranged.new.ranges) (sym c.in_ok-push.ensures.ok)
    (made_next c.args.terms.now c.loop-term.term-index c.term-item.result c.args.first c.args.ranges.now c.loop-term.made c.loop-term.ranges c.in_ok-ranged.field-0 c.ranged.new.ranges c.loop-term-test.true c.term-item.is c.loop-term.invariant c.in_ok-ranged.ensures)

pub ranged-returns-in_ok-push-in-Interval : goal.ranged-returns-in_ok-push-in-Interval
ranged-returns-in_ok-push-in-Interval t c =
    made_interval c.args.first c.args.ranges.now c.in_ok-low-in-Interval.low c.ranged.new.ranges c.in_ok-high-in-Interval.high c.ranged-in-Interval.new.ranges
    c.args.term.now c.in-Interval.low c.in-Interval.high c.get.result.now c.get-in-Interval.result.now c.in_ok-number-in-Interval.number c.push.new.self
    c.in-Interval.is c.get.ensures c.get-in-Interval.ensures c.in_ok-low-in-Interval.ensures c.in_ok-high-in-Interval.ensures c.in_ok-number-in-Interval.ensures c.in_ok-push-in-Interval.ensures.ok

pub ranged-returns-in_ok-right-in-Binary : goal.ranged-returns-in_ok-right-in-Binary
ranged-returns-in_ok-right-in-Binary t c =
    made_binary c.args.first c.args.ranges.now c.in_ok-ranged-in-Binary.field-0 c.ranged-in-Binary.new.ranges c.in_ok-ranged-in-Binary-2.field-0 c.ranged-in-Binary-2.new.ranges
    c.args.term.now c.in-Binary.left c.in-Binary.right c.get-in-Binary.result.now c.get-in-Binary-2.result.now c.in-Binary.op c.in_ok-left-in-Binary.left c.in_ok-right-in-Binary.right
    c.in-Binary.is c.get-in-Binary.ensures c.get-in-Binary-2.ensures c.in_ok-ranged-in-Binary.ensures c.in_ok-ranged-in-Binary-2.ensures c.in_ok-left-in-Binary.ensures c.in_ok-right-in-Binary.ensures
