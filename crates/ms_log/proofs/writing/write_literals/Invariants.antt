use Rattle.std.proofs.Common.{◌≡◌, ◌++◌, take}
use Rattle.ms_log.specs.NoteText.{items_text, literal_text}
use Rattle.ms_log.proofs.writing.write_literals.Given as goal

abbrev pub invariant-loop-lit : goal.invariant-loop-lit
invariant-loop-lit l = l.into.items ≡ (l.fn.into.items ++ l.words) ++ items_text literal_text (take l.lit-index l.lits)
