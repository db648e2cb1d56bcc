use Rattle.std.proofs.Common.{◌≡◌}
use Rattle.ms_refutation.specs.Sets.{AreReasoned}
use Rattle.ms_search_tests.proofs.analyze.first_conflict.Given as goal

abbrev pub invariant-loop-lit : goal.invariant-loop-lit
invariant-loop-lit l = record {
  room : l.trail.room ≡ 16;
  reasons : AreReasoned l.store l.trail.entries;
}
