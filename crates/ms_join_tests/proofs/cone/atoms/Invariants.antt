use Rattle.std.proofs.Common.{◌<◌, All}
use Rattle.ms_join_tests.proofs.cone.atoms.Given as goal

abbrev pub invariant-loop-number : goal.invariant-loop-number
invariant-loop-number l = All (λ a. a < 6) l.atoms
