use Rattle.std.proofs.Common.{◌++◌, [], take, subst, sym, ap, ◌∙◌, take_all}
use Rattle.std.specs.List.{flat_map}
use Rattle.ms_lines.specs.Whole.{HasTold}
use Rattle.ms_lines.proofs.WholeScripts.{told_first, told_piece, told_at_end, says_all, pieces_more}
use Rattle.ms_lines.proofs.pieces.read_pieces.Goals as goal

pub loop-piece-init : goal.loop-piece-init
loop-piece-init c = subst (λ said. HasTold [] said c.new-lines.result) (sym c.new-said.ensures) (told_first c.new-lines.result c.new-lines.ensures)

pub loop-piece-preserved : goal.loop-piece-preserved
loop-piece-preserved c =
    let before = flat_map (λ piece. piece) (take c.loop-piece.piece-index c.args.pieces.now) in
    let bytes = ap (λ piece. before ++ piece) c.as_slice.ensures ∙ sym (pieces_more c.args.pieces.now c.loop-piece.piece-index c.piece-item.result c.loop-piece-test.true c.piece-item.is) in
    subst (λ bytes. HasTold bytes c.take_whole.new.said c.take_whole.new.lines) bytes
    (c.in_ok-take_whole.ensures (before ++ c.as_slice.result.now) (told_piece before c.as_slice.result.now c.loop-piece.said c.loop-piece.lines c.feed.new.self c.in_ok-feed.ensures.ok c.loop-piece.invariant))

pub returns : goal.returns
returns c =
    let all = take_all c.loop-piece.piece-index c.args.pieces.now c.loop-piece-test.false in
    let whole = flat_map (λ piece. piece) c.args.pieces.now in
    let told = subst (λ pieces. HasTold (flat_map (λ piece. piece) pieces) c.loop-piece.said c.loop-piece.lines) all c.loop-piece.invariant in
    says_all whole c.take_last.new.said c.take_last.new.lines (c.in_ok-take_last.ensures.told whole (told_at_end whole c.loop-piece.said c.loop-piece.lines told)) c.in_ok-take_last.ensures.all c.unfinished.result c.unfinished.ensures
