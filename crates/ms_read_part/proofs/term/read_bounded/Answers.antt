use Rattle.ms_read_part.proofs.Leads.{Reads-bounded}
use Rattle.ms_read_part.proofs.term.read_bounded.Goals as goal

pub returns-in_default : goal.returns-in_default
returns-in_default c = Reads-bounded (rw c.in_default.is at c.in_ok-lead.ensures)

pub returns : goal.returns
returns c = rw (c.behind.ensures, c.into_term.ensures) (Reads-bounded (rw c.in-Some.is at c.in_ok-lead.ensures))
