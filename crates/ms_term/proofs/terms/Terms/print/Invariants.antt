use Rattle.std.proofs.Common.{◌≡◌, ◌++◌, length}
use Rattle.ms_tree.specs.Text.{tree_text}
use Rattle.ms_term.specs.Fronts.{IsFrontOf}
use Rattle.ms_term.specs.Pieces.{pieces_text, pieces_size, PiecesBelow}
use Rattle.ms_term.specs.Terms.{term_at}
use Rattle.ms_term.proofs.terms.Terms.print.Given as goal

abbrev pub invariant-loop-piece : goal.invariant-loop-piece
invariant-loop-piece l = record {
  same : l.into.items ++ pieces_text l.self l.pieces.items ≡ l.fn.into.items ++ tree_text (term_at l.self l.fn.t);
  front : IsFrontOf l.fn.into.items l.into.items;
  below : PiecesBelow (length l.self) l.pieces.items;
}

abbrev pub decreases-loop-piece : goal.decreases-loop-piece
decreases-loop-piece l = pieces_size l.self l.pieces.items
