use Rattle.ms_unfound.specs.Waiting.{AreCared, IsUnderWay, work_left}
use Rattle.ms_unfound.proofs.marking.Marking.finish.Given as goal

abbrev pub invariant-loop : goal.invariant-loop
invariant-loop l = IsUnderWay l.trail.entries l.part l.self × AreCared l.trail.entries l.part.supports l.self

abbrev pub decreases-loop : goal.decreases-loop
decreases-loop l = work_left l.self
