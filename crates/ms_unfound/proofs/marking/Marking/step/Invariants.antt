use Rattle.std.proofs.Common.{◌≤◌, drop}
use Rattle.ms_unfound.specs.Waiting.{IsUnderWay, work_left}
use Rattle.ms_unfound.proofs.WaitLaws.{AreCaredBut}
use Rattle.ms_unfound.proofs.marking.Marking.step.Given as goal

abbrev pub invariant-loop-support : goal.invariant-loop-support
invariant-loop-support l = IsUnderWay l.trail.entries l.part l.self × (work_left l.self ≤ work_left l.initial.self) × AreCaredBut l.trail.entries l.part.supports l.self (drop l.support-index l.support-items)
