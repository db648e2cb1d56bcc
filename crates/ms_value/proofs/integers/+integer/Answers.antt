use Rattle.std.proofs.Common.{ap, sym, ◌∙◌}
use Rattle.ms_copies.specs.Evaluating.{integer, value}
use Rattle.ms_copies.proofs.Values.{integer_range}
use Rattle.ms_value.proofs.LookUps.{looked_up}
use Rattle.ms_value.proofs.integers.+integer.Goals as goal

pub returns-in-Range : goal.returns-in-Range
returns-in-Range t c =
    c.copied.ensures
    ∙ looked_up c.get.result c.args.chosen.now c.in-Range.number c.get.ensures.lookup.3
    ∙ sym (ap (λ p. integer (value c.args.chosen.now p)) c.in-Range.is ∙ integer_range c.args.chosen.now c.in-Range.number)
