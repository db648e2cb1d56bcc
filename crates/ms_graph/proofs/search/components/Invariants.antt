use Rattle.std.proofs.Common.{ℕ, ◌≡◌, ◌<◌, [], length}
use Rattle.ms_graph.specs.declared.stage.Stage.TheVariants.{New}
use Rattle.ms_graph.specs.Chains.{AreChains}
use Rattle.ms_graph.specs.Stages.{stage_of}
use Rattle.ms_graph.specs.Search.{IsSearch}
use Rattle.ms_graph.proofs.search.components.Given as goal

abbrev pub invariant-loop-node : goal.invariant-loop-node
invariant-loop-node l = record {
  chains : AreChains l.edges-2 l.chains.last.items l.chains.before.items;
  search : IsSearch l.edges-2 l.chains.last.items l.search;
  path : l.search.path ≡ [];
  len : length l.search.stages ≡ l.nodes;
  seen : (a : ℕ) → a < l.node → stage_of l.search.stages a ≡ New → ⊥;
}
