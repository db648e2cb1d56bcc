use Rattle.ms_graph.specs.Chains.{AreLinked}
use Rattle.ms_graph.proofs.chains.Chains.new.Given as goal

abbrev pub invariant-loop-i : goal.invariant-loop-i
invariant-loop-i l = AreLinked l.nodes l.edges l.i l.last.items l.before.items
