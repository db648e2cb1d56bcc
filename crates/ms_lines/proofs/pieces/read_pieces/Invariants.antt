use Rattle.std.proofs.Common.{take}
use Rattle.std.specs.List.{flat_map}
use Rattle.ms_lines.specs.Whole.{HasTold}
use Rattle.ms_lines.proofs.pieces.read_pieces.Given as goal

abbrev pub invariant-loop-piece : goal.invariant-loop-piece
invariant-loop-piece l = HasTold (flat_map (λ piece. piece) (take l.piece-index l.pieces)) l.said l.lines
