use Rattle.std.proofs.Common.{ℕ, List, length}
use Rattle.ms_lines.specs.Whole.{HasTold}
use Rattle.ms_lines.proofs.pieces.take_whole.Given as goal

abbrev pub invariant-loop-fed : goal.invariant-loop-fed
invariant-loop-fed l = (bytes : List ℕ) → HasTold bytes l.initial.said l.initial.lines → HasTold bytes l.said l.lines

abbrev pub decreases-loop-fed : goal.decreases-loop-fed
decreases-loop-fed l = length l.lines.rest
