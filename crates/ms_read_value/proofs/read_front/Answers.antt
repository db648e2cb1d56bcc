use Rattle.ms_read_value.proofs.Fronts.{longest_if_ok, read_if_ok}
use Rattle.ms_read_value.proofs.read_front.Goals as goal

pub returns-clause-longest : goal.returns-clause-longest
returns-clause-longest c = longest_if_ok _ _ c.count_front.ensures

pub returns-clause-read : goal.returns-clause-read
returns-clause-read c = read_if_ok _ _ c.count_front.ensures
