use Rattle.std.proofs.Common.{◌≡◌, take}
use Rattle.std.specs.List.{All, Contains}
use Rattle.ms_unfound.specs.Watched.{KeepPlaces, places_at}
use Rattle.ms_unfound.proofs.watch.Watch.watch_atoms.Given as goal

abbrev pub invariant-loop-atom : goal.invariant-loop-atom
invariant-loop-atom l = (l.self.seen ≡ l.initial.self.seen) × (l.self.settled ≡ l.initial.self.settled) × KeepPlaces l.initial.self.places.items l.self.places.items
    × All (λ var. Contains (places_at l.self.places.items var) l.place) (take l.atom-index l.atoms)
