use Rattle.std.proofs.Common.{◌≡◌, ◌++◌, map, reverse}
use Rattle.ms_term.specs.declared.printing.Piece.TheVariants.{Next}
use Rattle.ms_term.proofs.printing.push_next.Given as goal

abbrev pub invariant-loop-argument : goal.invariant-loop-argument
invariant-loop-argument l =
    l.pieces.items ++ map (λ i. Next i) (reverse l.argument-iterator.iter.rest.now) ≡ l.initial.pieces.items ++ map (λ i. Next i) (reverse l.initial.argument-iterator.iter.rest.now)
