use Rattle.ms_read_part.proofs.Groups.{guarded_some}
use Rattle.ms_read_part.proofs.group.read_guarded.Goals as goal

pub returns-in_default-2 : goal.returns-in_default-2
returns-in_default-2 c = guarded_some (rw c.in-Some.is at c.in_ok-group.ensures) (rw c.in_default-2.is at c.in_ok-right.ensures)

pub returns : goal.returns
returns c = rw c.beside.ensures (guarded_some (rw c.in-Some.is at c.in_ok-group.ensures) (rw c.in-Some-2.is at c.in_ok-right.ensures))
