use Rattle.std.proofs.Common.{◌≡◌, take}
use Rattle.ms_unfound.specs.Watched.{StaySettled}
use Rattle.ms_unfound.proofs.watch.Watch.see.Given as goal

abbrev pub invariant-loop-place : goal.invariant-loop-place
invariant-loop-place l = StaySettled l.initial.self l.self × (l.self.places ≡ l.initial.self.places) × (l.self.seen ≡ take l.place l.trail.entries)
