use Rattle.std.proofs.Common.{length, ◌-◌}
use Rattle.ms_lex.proofs.Reading.{HasRead}
use Rattle.ms_lex.proofs.lex.Given as goal

abbrev pub invariant-loop-at : goal.invariant-loop-at
invariant-loop-at l = HasRead l.text l.tokens l.at l.line

abbrev pub decreases-loop-at : goal.decreases-loop-at
decreases-loop-at l = length l.initial.text - l.at
