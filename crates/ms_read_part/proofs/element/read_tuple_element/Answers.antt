use Rattle.ms_read_part.proofs.Elements.{tuple_element_none, tuple_element_some}
use Rattle.ms_read_part.proofs.element.read_tuple_element.Goals as goal

pub returns-in_default : goal.returns-in_default
returns-in_default c = tuple_element_none (rw c.in_default.is at c.in_ok-tuple.ensures)

pub returns-in_default-2 : goal.returns-in_default-2
returns-in_default-2 c = tuple_element_some (rw c.in-Some.is at c.in_ok-tuple.ensures) (rw c.in_default-2.is at c.in_ok-conds.ensures)

pub returns : goal.returns
returns c = rw c.tuple_element.ensures (tuple_element_some (rw c.in-Some.is at c.in_ok-tuple.ensures) (rw c.in-Some-2.is at c.in_ok-conds.ensures))
