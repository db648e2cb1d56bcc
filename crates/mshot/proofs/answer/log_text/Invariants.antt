use Rattle.std.proofs.Common.{◌≡◌, take}
use Rattle.ms_log.specs.NoteText.{notes_text}
use Rattle.mshot.proofs.answer.log_text.Given as goal

-- the lines so far
abbrev pub invariant-loop-note : goal.invariant-loop-note
invariant-loop-note l = l.text.items ≡ notes_text (take l.note-index l.notes)
