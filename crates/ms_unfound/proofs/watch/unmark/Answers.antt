use Rattle.std.proofs.Common.{◌+◌, ℕ, List, subst, sym, take}
use Rattle.std.proofs.lemmas.List.{take_all}
use Rattle.ms_unfound.specs.Watched.{Touches}
use Rattle.ms_unfound.proofs.watch.unmark.Goals as goal

pub returns : goal.returns
returns c = subst (λ (ps : List ℕ). Touches ps c.args.settled.now c.loop-place.settled) (take_all c.loop-place.place-index c.args.places.now c.loop-place-test.false) c.loop-place.invariant
