use Rattle.std.proofs.Common.{take}
use Rattle.ms_unfound.specs.Watched.{Touches}
use Rattle.ms_unfound.proofs.watch.unmark.Given as goal

abbrev pub invariant-loop-place : goal.invariant-loop-place
invariant-loop-place l = Touches (take l.place-index l.places) l.initial.settled l.settled
