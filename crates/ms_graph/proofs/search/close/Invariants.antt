use Rattle.std.proofs.Common.{◌≡◌, drop}
use Rattle.ms_graph.specs.Stages.{numbered}
use Rattle.ms_graph.proofs.search.close.Given as goal

abbrev pub invariant-loop-node : goal.invariant-loop-node
invariant-loop-node l =
    numbered l.stages (drop l.node-index l.nodes) l.number ≡ numbered l.initial.stages l.nodes l.number
