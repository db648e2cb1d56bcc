use Rattle.std.proofs.Common.{sym, ◌∙◌}
use Rattle.ms_read_part.proofs.Parts.{plain_unled, plain_led}
use Rattle.ms_read_part.proofs.part.read_plain_part.Goals as goal

pub returns-then-opens : goal.returns-then-opens
returns-then-opens c = plain_unled c.args.input _ (rw c.front.ensures at (sym c.opens.ensures ∙ c.if-opens.true)) c.read_unled.ensures

pub returns-else-opens : goal.returns-else-opens
returns-else-opens c = plain_led c.args.input _ (rw c.front.ensures at (sym c.opens.ensures ∙ c.if-opens.false)) c.read_led.ensures
