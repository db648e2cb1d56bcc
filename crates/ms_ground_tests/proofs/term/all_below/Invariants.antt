use Rattle.std.proofs.Common.{length}
use Rattle.ms_term.specs.Terms.{AllBelow}
use Rattle.ms_ground_tests.proofs.term.all_below.Given as goal

abbrev pub invariant-loop-rest : goal.invariant-loop-rest
invariant-loop-rest l = AllBelow l.n l.rest → AllBelow l.n l.fn.ids

abbrev pub decreases-loop-rest : goal.decreases-loop-rest
decreases-loop-rest l = length l.rest
