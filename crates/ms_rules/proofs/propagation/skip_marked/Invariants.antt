use Rattle.std.proofs.Common.{ℕ, ◌<◌, ◌≤◌, IsTrue}
use Rattle.std.specs.Prelude.{slice_index}
use Rattle.ms_rules.specs.Flags.{flag_at}
use Rattle.ms_rules.proofs.propagation.skip_marked.Given as goal

abbrev pub invariant-loop-rest : goal.invariant-loop-rest
invariant-loop-rest l = record {
  fewer : l.rest ≤ l.left;
  passed : (i : ℕ) → l.rest ≤ i → i < l.left → IsTrue (flag_at l.derived (slice_index l.atoms i));
}

abbrev pub decreases-loop-rest : goal.decreases-loop-rest
decreases-loop-rest l = l.rest
