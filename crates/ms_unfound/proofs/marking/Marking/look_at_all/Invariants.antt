use Rattle.std.proofs.Common.{ℕ, ◌<◌}
use Rattle.ms_unfound.specs.Waiting.{IsCaredAt, IsUnderWay}
use Rattle.ms_unfound.proofs.marking.Marking.look_at_all.Given as goal

abbrev pub invariant-loop-place : goal.invariant-loop-place
invariant-loop-place l = IsUnderWay l.trail.entries l.part l.self × ((k : ℕ) → k < l.place → IsCaredAt l.trail.entries l.part.supports l.self k)
