use Rattle.std.proofs.Common.{◌<◌, All}
use Rattle.ms_join_tests.proofs.propagation.inputs_of.Given as goal

abbrev pub invariant-loop-number : goal.invariant-loop-number
invariant-loop-number l = All (λ i. i.atom < 4) l.inputs
