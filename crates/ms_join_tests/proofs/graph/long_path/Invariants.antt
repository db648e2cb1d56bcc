use Rattle.ms_graph.specs.Components.{IsGraph}
use Rattle.ms_join_tests.proofs.graph.long_path.Given as goal

abbrev pub invariant-loop-from : goal.invariant-loop-from
invariant-loop-from l = IsGraph 1000 l.edges
