use Rattle.std.proofs.Common.{◌++◌, take, ap, sym, ◌∙◌}
use Rattle.ms_lines.proofs.LineSteps.{goes_on, line_with_end}
use Rattle.ms_lines.proofs.read_inside.Goals as goal

pub returns-clause-said : goal.returns-clause-said
returns-clause-said c =
    goes_on (take c.args.len c.args.bytes.now) c.args.lines _ (sym c.ends_text.ensures ∙ c.if-ends_text.false)
    (c.in_ok-added.ensures.ok ∙ ap (λ line. c.args.lines ++ line) (line_with_end c.args.bytes.now c.args.len c.requires.line))
