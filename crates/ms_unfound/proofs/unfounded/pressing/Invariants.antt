use Rattle.std.proofs.Common.{◌≡◌, take}
use Rattle.std.specs.List.{All}
use Rattle.ms_unfound.specs.Settled.{IsSettledPart}
use Rattle.ms_unfound.specs.Watched.{AreSettled}
use Rattle.ms_unfound.proofs.unfounded.pressing.Given as goal

abbrev pub invariant-loop-place : goal.invariant-loop-place
invariant-loop-place l = AreSettled l.parts l.watch.settled l.trail.entries × All (λ part. IsSettledPart part l.trail.entries) (take l.place l.parts)
    × (l.watch.places ≡ l.initial.watch.places) × (l.watch.seen ≡ l.initial.watch.seen)
