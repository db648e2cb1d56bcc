use Rattle.std.proofs.Common.{length}
use Rattle.ms_ground_tests.proofs.value.all_chosen.Given as goal

abbrev pub decreases-loop-walk : goal.decreases-loop-walk
decreases-loop-walk l = length l.walk.left
