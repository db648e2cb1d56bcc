use Rattle.std.proofs.Common.{ℕ, ◌<◌, ◌≤◌, IsTrue, slice_index}
use Rattle.ms_unfound.specs.Marks.{flag_at}
use Rattle.ms_unfound.proofs.marking.unmarked_from.Given as goal

abbrev pub invariant-loop-at : goal.invariant-loop-at
invariant-loop-at l = (k : ℕ) → l.from ≤ k → k < l.at → IsTrue (flag_at l.marked (slice_index l.places k))
