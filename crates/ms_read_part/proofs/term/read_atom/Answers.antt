use Rattle.ms_read_part.proofs.Atoms.{Reads-atom}
use Rattle.ms_read_part.proofs.term.read_atom.Goals as goal

pub returns-in_default : goal.returns-in_default
returns-in_default c = Reads-atom (rw c.in_default.is at c.in_ok-lead.ensures)

pub returns : goal.returns
returns c = rw (c.behind.ensures, c.into_atom.ensures) (Reads-atom (rw c.in-Some.is at c.in_ok-lead.ensures))
