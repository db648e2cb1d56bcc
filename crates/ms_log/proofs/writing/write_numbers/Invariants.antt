use Rattle.std.proofs.Common.{◌≡◌, ◌++◌, take}
use Rattle.ms_log.specs.NoteText.{items_text, number_text}
use Rattle.ms_log.proofs.writing.write_numbers.Given as goal

abbrev pub invariant-loop-number : goal.invariant-loop-number
invariant-loop-number l = l.into.items ≡ (l.fn.into.items ++ l.words) ++ items_text number_text (take l.number-index l.numbers)
