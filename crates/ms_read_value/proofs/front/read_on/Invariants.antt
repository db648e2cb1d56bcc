use Rattle.std.proofs.Common.{length}
use Rattle.ms_read_value.proofs.Tokens.{HasRead}
use Rattle.ms_read_value.proofs.front.read_on.Given as goal

abbrev pub invariant-loop-progress : goal.invariant-loop-progress
invariant-loop-progress l = HasRead l.text l.fn.progress l.tokens l.progress l.rest

abbrev pub decreases-loop-progress : goal.decreases-loop-progress
decreases-loop-progress l = length l.rest
