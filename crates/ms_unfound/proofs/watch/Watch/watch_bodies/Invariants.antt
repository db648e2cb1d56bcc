use Rattle.std.proofs.Common.{◌≡◌, take}
use Rattle.std.specs.List.{All, Contains}
use Rattle.ms_unfound.specs.Watched.{KeepPlaces, places_at}
use Rattle.ms_unfound.proofs.watch.Watch.watch_bodies.Given as goal

abbrev pub invariant-loop-support : goal.invariant-loop-support
invariant-loop-support l = (l.self.seen ≡ l.initial.self.seen) × (l.self.settled ≡ l.initial.self.settled) × KeepPlaces l.initial.self.places.items l.self.places.items
    × All (λ s. Contains (places_at l.self.places.items s.body) l.place) (take l.support-index l.supports)
