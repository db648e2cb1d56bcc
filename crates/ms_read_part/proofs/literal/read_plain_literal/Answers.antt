use Rattle.ms_read_part.proofs.Literals.{plain_literal_none, plain_literal_some}
use Rattle.ms_read_part.proofs.literal.read_plain_literal.Goals as goal

pub returns-in_default : goal.returns-in_default
returns-in_default c = plain_literal_none (rw c.in_default.is at c.in_ok-lead.ensures)

pub returns-in_default-2 : goal.returns-in_default-2
returns-in_default-2 c = plain_literal_some (rw c.in-Some.is at c.in_ok-lead.ensures) (rw c.in_default-2.is at c.in_ok-comparison.ensures)

pub returns : goal.returns
returns c = rw (c.behind.ensures, c.literal_of.ensures) (plain_literal_some (rw c.in-Some.is at c.in_ok-lead.ensures) (rw c.in-Some-2.is at c.in_ok-comparison.ensures))
