use Rattle.std.proofs.Common.{◌≡◌}
use Rattle.ms_read_term.specs.Closing.{negated}
use Rattle.ms_read_term.proofs.make.negated.Given as goal

abbrev pub invariant-loop-minuses : goal.invariant-loop-minuses
invariant-loop-minuses l = negated l.minuses l.part ≡ negated l.initial.minuses l.initial.part

abbrev pub decreases-loop-minuses : goal.decreases-loop-minuses
decreases-loop-minuses l = l.minuses
