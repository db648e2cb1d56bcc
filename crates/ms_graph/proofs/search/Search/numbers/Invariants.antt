use Rattle.std.proofs.Common.{◌≡◌, map, take}
use Rattle.ms_graph.specs.declared.stage.Stage.TheVariants.{Closed}
use Rattle.ms_graph.proofs.search.Search.numbers.Given as goal

abbrev pub invariant-loop-stage : goal.invariant-loop-stage
invariant-loop-stage l = map (λ number. Closed number) l.numbers ≡ take l.stage-index l.self.stages
