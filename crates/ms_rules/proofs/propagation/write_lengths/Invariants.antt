use Rattle.std.proofs.Common.{ℕ, ◌≡◌, ◌<◌, length}
use Rattle.std.specs.Prelude.{slice_index}
use Rattle.ms_rules.specs.Waiting.{body_at}
use Rattle.ms_rules.proofs.propagation.write_lengths.Given as goal

abbrev pub invariant-loop-number : goal.invariant-loop-number
invariant-loop-number l = (k : ℕ) → k < l.number → slice_index l.left k ≡ length (body_at l.rules k)
