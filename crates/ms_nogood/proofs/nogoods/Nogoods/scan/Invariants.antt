use Rattle.std.proofs.Common.{◌-◌, length}
use Rattle.ms_nogood.specs.Propagation.{Propagates}
use Rattle.ms_nogood.proofs.nogoods.Nogoods.scan.Given as goal

abbrev pub invariant-loop-key : goal.invariant-loop-key
invariant-loop-key l = Propagates l.self l.initial.trail l.trail

abbrev pub decreases-loop-key : goal.decreases-loop-key
decreases-loop-key l = l.trail.room - length l.trail.entries
