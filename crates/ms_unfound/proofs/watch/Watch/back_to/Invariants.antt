use Rattle.std.proofs.Common.{◌≡◌, length, take}
use Rattle.ms_unfound.specs.Watched.{StaySettled}
use Rattle.ms_unfound.proofs.watch.Watch.back_to.Given as goal

abbrev pub invariant-loop-self : goal.invariant-loop-self
invariant-loop-self l = StaySettled l.initial.self l.self × (l.self.places ≡ l.initial.self.places) × (take l.len l.self.seen ≡ take l.len l.initial.self.seen)

abbrev pub decreases-loop-self : goal.decreases-loop-self
decreases-loop-self l = length l.self.seen
