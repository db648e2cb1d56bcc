use Rattle.std.proofs.Common.{◌<ℤ◌, arith}
use Rattle.std.proofs.lemmas.Int.{ints}
use Rattle.ms_copies.specs.Evaluating.{integer, value}
use Rattle.ms_value.proofs.Spans.{empty_span}
use Rattle.ms_value.proofs.place.span.Goals as goal

pub returns-else-low-high : goal.returns-else-low-high
returns-else-low-high c =
    let less : c.in_ok-low.high <ℤ c.in_ok-low.low = grind (arith, ints, c.if-low-high.false) in
    empty_span (integer (value c.args.before.now c.args.range.now.low)) (integer (value c.args.before.now c.args.range.now.high)) c.ends.result (c.in_ok-low.low, c.in_ok-low.high) c.ends.ensures c.in_ok-low.was less
