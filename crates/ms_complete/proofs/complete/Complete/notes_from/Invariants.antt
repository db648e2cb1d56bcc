use Rattle.std.proofs.Common.{take, drop}
use Rattle.std.specs.List.{AllZip}
use Rattle.ms_complete.specs.Notes.{Tells}
use Rattle.ms_complete.proofs.complete.Complete.notes_from.Given as goal

abbrev pub invariant-loop-number : goal.invariant-loop-number
invariant-loop-number l = AllZip (Tells l.self l.terms) (drop l.first (take l.number l.self.things)) l.notes
