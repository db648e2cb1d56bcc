use Rattle.std.proofs.Common.{ℕ, List, length}
use Rattle.ms_lines.specs.Whole.{HasToldAtEnd}
use Rattle.ms_lines.proofs.pieces.take_last.Given as goal

abbrev pub invariant-loop-fed : goal.invariant-loop-fed
invariant-loop-fed l = (bytes : List ℕ) → HasToldAtEnd bytes l.initial.said l.initial.lines → HasToldAtEnd bytes l.said l.lines

abbrev pub decreases-loop-fed : goal.decreases-loop-fed
decreases-loop-fed l = length l.lines.rest
