use Rattle.std.proofs.Common.{◌+◌, ◌-◌, length}
use Rattle.ms_unfound.specs.Watched.{KeepPlaces}
use Rattle.ms_unfound.proofs.watch.make_room.Given as goal

abbrev pub invariant-loop-alloc : goal.invariant-loop-alloc
invariant-loop-alloc l = KeepPlaces l.initial.lists.items l.lists.items

abbrev pub decreases-loop-alloc : goal.decreases-loop-alloc
decreases-loop-alloc l = (l.var + 1) - length l.lists.items
