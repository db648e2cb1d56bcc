use Rattle.std.specs.Prelude.{ℕ, List}
use Rattle.ms_graph.specs.declared.stage.Stage.{Stage}

-- What a search keeps: the stage of each node, the open nodes, the places among them in which segments start
-- and those of the nodes of the path, and how many components are closed.
pub record State : Type 0 where
  pub stages : List Stage
  pub stack : List ℕ
  pub segments : List ℕ
  pub path : List ℕ
  pub count : ℕ
