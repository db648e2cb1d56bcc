use Rattle.ms_parse.proofs.PieceLemmas.{first_piece}
use Rattle.ms_parse.proofs.piece.split_piece.Goals as goal
use Rattle.std.proofs.Common.{sym, ◌∙◌}

pub returns : goal.returns
returns c = first_piece _ _ _ _ (sym c.is_empty.ensures ∙ c.if-is_empty.false) c.piece_len.ensures c.split_at.ensures.front c.split_at.ensures.back
