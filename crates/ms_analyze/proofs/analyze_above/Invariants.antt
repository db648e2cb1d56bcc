use Rattle.std.proofs.Common.{◌<◌, All}
use Rattle.ms_analyze.proofs.Stages.{IsStage}
use Rattle.ms_analyze.proofs.analyze_above.Given as goal

abbrev pub invariant-loop-reason : goal.invariant-loop-reason
invariant-loop-reason l = record {
  stage : IsStage l.store l.trail l.violated l.cut.places.keys l.last l.cut.temporary;
  resolved : All (λ v. v < l.trail.room) l.resolved.items;
}

abbrev pub decreases-loop-reason : goal.decreases-loop-reason
decreases-loop-reason l = l.last
