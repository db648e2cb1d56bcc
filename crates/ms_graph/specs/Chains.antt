-- The edges from each node that remain to be followed, each linked to the one before it.
use Rattle.std.specs.Prelude.{ℕ, ◌≡◌, ◌+◌, ◌<◌, ◌≤◌, List, length, sum, slice_index}
use Rattle.std.specs.List.{slice_index_or}
use Rattle.ms_graph.specs.declared.edge.Edge.{Edge}
use Rattle.ms_graph.specs.Components.{Leads}

-- the link to an edge from the node among the first so many edges, or to none
pub record IsLink (edges : List Edge) (node count link : ℕ) : Type 0 where
  pub within : link ≤ count
  pub found : (k : ℕ) (d : Edge) → link ≡ k + 1 → (slice_index_or edges k d).from ≡ node

-- the link to the last edge from the node among the first so many edges
pub record IsLast (edges : List Edge) (node count link : ℕ) : Type 0 where
  pub is_link : IsLink edges node count link
  pub others : (k : ℕ) (d : Edge) → link ≤ k → k < count → (slice_index_or edges k d).from ≡ node → ⊥

-- The last edge of each node and the one before each edge are linked, of the first so many edges.
pub record AreLinked (nodes : ℕ) (edges : List Edge) (count : ℕ) (last before : List ℕ) : Type 0 where
  pub last_len : length last ≡ nodes
  pub before_len : length before ≡ count
  pub of_nodes : (node : ℕ) → node < nodes → IsLast edges node count (slice_index last node)
  pub of_edges : (k : ℕ) (d : Edge) → k < count → IsLast edges (slice_index_or edges k d).from k (slice_index before k)

-- Each node is linked to one of its edges, and each edge to the one before it.
pub record AreChains (edges : List Edge) (last before : List ℕ) : Type 0 where
  pub len : length before ≡ length edges
  pub of_nodes : (node : ℕ) → node < length last → IsLink edges node (length edges) (slice_index last node)
  pub of_edges : (k : ℕ) (d : Edge) → k < length edges → IsLast edges (slice_index_or edges k d).from k (slice_index before k)

-- The edge in a place remains where the link of its start is beyond it.
abbrev pub Remains : List ℕ → ℕ → Edge → Type 0
Remains last place edge = place < slice_index last edge.from

abbrev pub AllRemain : List Edge → List ℕ → Type 0
AllRemain edges last = (k : ℕ) (d : Edge) → k < length edges → Remains last k (slice_index_or edges k d)

-- An edge from the one node to the other is taken, and all others that remained still do.
pub record IsTaken (edges : List Edge) (node : ℕ) (old new : List ℕ) (end : ℕ) : Type 0 where
  pub place : ℕ
  pub within : place < length edges
  pub leads : (d : Edge) → Leads (slice_index_or edges place d) node end
  pub others : (k : ℕ) (d : Edge) → k < length edges → (k ≡ place → ⊥) → Remains old k (slice_index_or edges k d) → Remains new k (slice_index_or edges k d)
  pub fewer : sum new < sum old
