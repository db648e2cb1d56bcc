use Rattle.ms_read_term.proofs.Reading.{if_read}
use Rattle.ms_read_term.proofs.read_term.Goals as goal

pub returns : goal.returns
returns c = if_read _ _ _ c.new-reader.ensures c.find-found.ensures
