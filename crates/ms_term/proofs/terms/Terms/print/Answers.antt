use Rattle.std.proofs.Common.{length}
use Rattle.ms_term.proofs.FrontLaws.{front_then}
use Rattle.ms_term.proofs.Pieces.{last_below, taken_below, smaller_after, same_after, piece_front}
use Rattle.ms_term.proofs.PrintFronts.{on_err}
use Rattle.ms_term.proofs.terms.Terms.print.Goals as goal

pub print_piece-requires-clause-within : goal.print_piece-requires-clause-within
print_piece-requires-clause-within c =
    last_below c.args.self.now c.loop-piece.pieces.items c.pop.new.self.items c.in-Some.piece c.in-Some.ensures.items (length c.args.self.now) c.loop-piece.invariant.below

pub print_piece-requires-clause-below : goal.print_piece-requires-clause-below
print_piece-requires-clause-below c =
    taken_below c.args.self.now c.loop-piece.pieces.items c.pop.new.self.items c.in-Some.piece c.in-Some.ensures.items (length c.args.self.now) c.loop-piece.invariant.below

pub loop-piece-smaller : goal.loop-piece-smaller
loop-piece-smaller c =
    smaller_after c.args.self.now c.loop-piece.pieces.items c.pop.new.self.items c.in-Some.piece c.in-Some.ensures.items c.print_piece.new.pieces.items c.in_ok-print_piece.ensures.ok.smaller

pub loop-piece-preserved : goal.loop-piece-preserved
loop-piece-preserved c =
    let i = c.loop-piece.invariant in
    let begun = c.in_ok-print_piece.ensures.ok in
    record {
      same = same_after c.args.self.now c.loop-piece.pieces.items c.pop.new.self.items c.in-Some.piece c.in-Some.ensures.items c.print_piece.new.pieces.items c.args.into.now.items c.loop-piece.into.items c.print_piece.new.into.items _ i.same begun.same;
      front = front_then c.args.into.now.items c.loop-piece.into.items c.print_piece.new.into.items i.front begun.kept;
      below = begun.below;
    }

pub returns-in_err-print_piece-clause-err : goal.returns-in_err-print_piece-clause-err
returns-in_err-print_piece-clause-err c =
    on_err _ _ (piece_front c.args.self.now c.loop-piece.pieces.items c.pop.new.self.items c.in-Some.piece c.in-Some.ensures.items c.args.into.now.items c.loop-piece.into.items c.print_piece.new.into.items _
    c.loop-piece.invariant.front c.loop-piece.invariant.same c.in_err-print_piece.ensures.err)
