use Rattle.std.proofs.Common.{arith}
use Rattle.ms_log.proofs.Colons.{before, end_is}
use Rattle.ms_log.proofs.Notes.{only_note}
use Rattle.ms_log.proofs.reading.read.Goals as goal

pub returns-in-10-clause-only : goal.returns-in-10-clause-only
returns-in-10-clause-only c = only_note c.read_words.result c.args.line.now (before c.args.line.now) (end_is c.args.line.now 10 (omega arith) (omega arith)) c.read_words.ensures
