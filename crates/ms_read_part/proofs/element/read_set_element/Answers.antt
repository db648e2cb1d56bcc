use Rattle.ms_read_part.proofs.Elements.{set_element_none, set_element_some}
use Rattle.ms_read_part.proofs.element.read_set_element.Goals as goal

pub returns-in_default : goal.returns-in_default
returns-in_default c = set_element_none (rw c.in_default.is at c.in_ok-atom.ensures)

pub returns-in_default-2 : goal.returns-in_default-2
returns-in_default-2 c = set_element_some (rw c.in-Some.is at c.in_ok-atom.ensures) (rw c.in_default-2.is at c.in_ok-conds.ensures)

pub returns : goal.returns
returns c = rw c.set_element.ensures (set_element_some (rw c.in-Some.is at c.in_ok-atom.ensures) (rw c.in-Some-2.is at c.in_ok-conds.ensures))
