-- Strongly connected components and their numbers in reverse topological order, after R. Tarjan, "Depth-first
-- search and linear graph algorithms", SIAM Journal on Computing 1 (1972), and H. N. Gabow, "Path-based
-- depth-first search for strong and biconnected components", Information Processing Letters 74 (2000).
use Rattle.std.specs.Prelude.{ℕ, zero, suc, ◌≡◌, ◌<◌, ◌≤◌, ◌↔◌, List, All, length, slice_index}
use Rattle.std.specs.List.{slice_index_or}
use Rattle.ms_graph.specs.declared.edge.Edge.{Edge}

-- the edge leads from the one node to the other
pub record Leads (edge : Edge) (a b : ℕ) : Type 0 where
  pub start : edge.from ≡ a
  pub end : edge.to ≡ b

-- an edge of the list leads from the one node to the other
pub record IsEdge (edges : List Edge) (a b : ℕ) : Type 0 where
  pub place : ℕ
  pub within : place < length edges
  pub leads : (d : Edge) → Leads (slice_index_or edges place d) a b

-- a walk of so many edges
abbrev pub Walk : List Edge → ℕ → ℕ → ℕ → Type 0
Walk edges zero a b = a ≡ b
Walk edges (suc steps) a b = (c : ℕ) × Walk edges steps a c × IsEdge edges c b

-- A walk leads from the one node to the other. Each node reaches itself.
pub record Reaches (edges : List Edge) (a b : ℕ) : Type 0 where
  pub steps : ℕ
  pub walk : Walk edges steps a b

-- each of the two nodes reaches the other, so that they are in one component
pub record ReachEachOther (edges : List Edge) (a b : ℕ) : Type 0 where
  pub forth : Reaches edges a b
  pub back : Reaches edges b a

-- the ends of the edge are below the number of nodes
pub record HasEndsBelow (nodes : ℕ) (edge : Edge) : Type 0 where
  pub start : edge.from < nodes
  pub end : edge.to < nodes

-- the ends of all edges are below the number of nodes
abbrev pub IsGraph : ℕ → List Edge → Type 0
IsGraph nodes edges = All (HasEndsBelow nodes) edges

-- Each node has a number below the number of nodes. Two nodes have equal numbers exactly where they are in
-- one component, and no edge leads to a greater number.
pub record IsNumbering (nodes : ℕ) (edges : List Edge) (numbers : List ℕ) : Type 0 where
  pub len : length numbers ≡ nodes
  pub components : (a b : ℕ) → a < nodes → b < nodes → (slice_index numbers a ≡ slice_index numbers b) ↔ ReachEachOther edges a b
  pub falling : All (λ e. slice_index numbers e.to ≤ slice_index numbers e.from) edges
  pub below : All (λ number. number < nodes) numbers
