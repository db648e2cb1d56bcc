use Rattle.std.proofs.Common.{length}
use Rattle.ms_log.specs.NoteText.{literal_text, IsLiteral}
use Rattle.ms_log.proofs.Items.{AreRead}
use Rattle.ms_log.proofs.item.read_literals.Given as goal

abbrev pub invariant-loop-rest : goal.invariant-loop-rest
invariant-loop-rest l = AreRead literal_text IsLiteral l.text l.rest l.lits

abbrev pub decreases-loop-rest : goal.decreases-loop-rest
decreases-loop-rest l = length l.rest
