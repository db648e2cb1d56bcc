use Rattle.ms_log.proofs.Notes as notes
use Rattle.ms_log.proofs.laws.one_note.Goals as goal

pub returns : goal.returns
returns c = notes.one_note
