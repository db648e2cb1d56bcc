use Rattle.std.proofs.Common.{◌<◌, All}
use Rattle.std.specs.List.Sorted.{IsStrictlyIncreasing}
use Rattle.ms_join_tests.proofs.propagation.atoms_of.Given as goal

abbrev pub invariant-loop-number : goal.invariant-loop-number
invariant-loop-number l = record {
  rising : IsStrictlyIncreasing l.atoms;
  below : All (λ a. a < l.number) l.atoms;
}
