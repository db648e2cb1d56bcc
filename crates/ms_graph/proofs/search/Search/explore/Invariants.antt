use Rattle.std.proofs.Common.{◌≡◌, length}
use Rattle.ms_graph.specs.declared.stage.Stage.TheVariants.{New}
use Rattle.ms_graph.specs.Chains.{AreChains}
use Rattle.ms_graph.specs.Stages.{KeepsEntered, stage_of}
use Rattle.ms_graph.specs.Search.{IsSearch, work}
use Rattle.ms_graph.proofs.search.Search.explore.Given as goal

abbrev pub invariant-loop-node : goal.invariant-loop-node
invariant-loop-node l = record {
  chains : AreChains l.edges l.chains.last.items l.chains.before.items;
  search : IsSearch l.edges l.chains.last.items l.self;
  len : length l.self.stages ≡ length l.fn.self.stages;
  entered : KeepsEntered l.fn.self.stages l.self.stages;
  root : stage_of l.self.stages l.root ≡ New → ⊥;
}

abbrev pub decreases-loop-node : goal.decreases-loop-node
decreases-loop-node l = work l.chains.last.items l.self
