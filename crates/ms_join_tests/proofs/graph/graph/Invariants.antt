use Rattle.ms_graph.specs.Components.{IsGraph}
use Rattle.ms_join_tests.proofs.graph.graph.Given as goal

abbrev pub invariant-loop-from : goal.invariant-loop-from
invariant-loop-from l = IsGraph l.nodes l.edges
