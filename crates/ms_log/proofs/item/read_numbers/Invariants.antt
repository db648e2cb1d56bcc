use Rattle.std.proofs.Common.{length}
use Rattle.ms_log.specs.NoteText.{number_text, IsThing}
use Rattle.ms_log.proofs.Items.{AreRead}
use Rattle.ms_log.proofs.item.read_numbers.Given as goal

abbrev pub invariant-loop-rest : goal.invariant-loop-rest
invariant-loop-rest l = AreRead number_text IsThing l.text l.rest l.numbers

abbrev pub decreases-loop-rest : goal.decreases-loop-rest
decreases-loop-rest l = length l.rest
