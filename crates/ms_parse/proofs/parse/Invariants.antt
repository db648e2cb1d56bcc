use Rattle.std.proofs.Common.{length}
use Rattle.ms_parse.proofs.PiecewiseLemmas.{IsReadUpTo}
use Rattle.ms_parse.proofs.parse.Given as goal

abbrev pub invariant-loop-piece : goal.invariant-loop-piece
invariant-loop-piece l = IsReadUpTo l.text l.tokens l.statements l.rest

abbrev pub decreases-loop-piece : goal.decreases-loop-piece
decreases-loop-piece l = length l.rest
