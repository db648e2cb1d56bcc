use Rattle.ms_read_part.proofs.Parts.{led_none, led_some}
use Rattle.ms_read_part.proofs.part.read_led.Goals as goal

pub returns-in_default : goal.returns-in_default
returns-in_default c = led_none (rw c.in_default.is at c.in_ok-lead.ensures)

pub returns-in_default-2 : goal.returns-in_default-2
returns-in_default-2 c = led_some (rw c.in-Some.is at c.in_ok-lead.ensures) (rw c.in_default-2.is at c.in_ok-tail.ensures)

pub returns : goal.returns
returns c = rw (c.behind.ensures, c.part_of.ensures) (led_some (rw c.in-Some.is at c.in_ok-lead.ensures) (rw c.in-Some-2.is at c.in_ok-tail.ensures))
