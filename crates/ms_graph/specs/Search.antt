-- The steps of the path-based search for strong components, and what holds of its states, after H. N. Gabow,
-- "Path-based depth-first search for strong and biconnected components", Information Processing Letters 74
-- (2000).
use Rattle.std.specs.Prelude.{ℕ, ◌≡◌, ◌+◌, ◌-◌, ◌^◌, ◌<◌, ◌≤◌, ◌==◌, ◌⊎◌, nat_le, if◌then◌else◌, List, [], ◌∷◌, ◌++◌, Option, option_map, Contains, filter, take, drop, length, sum, slice_get, slice_index, slice_set}
use Rattle.std.specs.List.{slice_index_or}
use Rattle.std.specs.List.Sorted.{IsStrictlyIncreasing}
use Rattle.ms_graph.specs.declared.edge.Edge.{Edge}
use Rattle.ms_graph.specs.declared.stage.Stage.{Stage}
use Rattle.ms_graph.specs.declared.stage.Stage.TheVariants.{New, Open, Closed}
use Rattle.ms_graph.specs.Components.{Reaches}
use Rattle.ms_graph.specs.Stages.{stage_of, new_count, numbered}
use Rattle.ms_graph.specs.State.{State}

abbrev pub last_of : List ℕ → ℕ
last_of xs = slice_index xs (length xs - 1)

-- the open node in a place of the stack
abbrev pub node_at : State → ℕ → ℕ
node_at s place = slice_index s.stack place

-- the last node of the path
abbrev pub current : State → Option ℕ
current s = option_map (node_at s) (slice_get s.path (length s.path - 1))

-- a new node is entered
abbrev pub entered : State → ℕ → State
entered s a = record s {
  stages = slice_set s.stages a (Open (length s.stack));
  stack = s.stack ++ a ∷ [];
  segments = s.segments ++ length s.stack ∷ [];
  path = s.path ++ length s.stack ∷ [];
}

-- the segments from the one of this place on are one
abbrev pub merged : State → ℕ → State
merged s place = record s { segments = filter (λ start. nat_le start place) s.segments }

abbrev pub followed_by : Stage → State → ℕ → State
followed_by New s a = entered s a
followed_by (Open place) s a = merged s place
followed_by (Closed number) s a = s

-- an edge from the end of the path to this node is followed
abbrev pub followed : State → ℕ → State
followed s a = followed_by (stage_of s.stages a) s a

-- the path without its last node
abbrev pub retreated : State → State
retreated s = record s { path = take (length s.path - 1) s.path }

-- the last segment, which starts in this place, is a component
abbrev pub closed : State → ℕ → State
closed s place = record s {
  stages = numbered s.stages (drop place s.stack) s.count;
  stack = take place s.stack;
  segments = take (length s.segments - 1) s.segments;
  count = s.count + 1;
}

-- the last node of the path is left
abbrev pub left : State → State
left s = if last_of s.segments == last_of s.path then closed (retreated s) (last_of s.path) else retreated s

-- the node stands in this place of the stack
pub record IsOpenAt (s : State) (a place : ℕ) : Type 0 where
  pub within : place < length s.stack
  pub node : node_at s place ≡ a

-- Exactly the nodes of the stack are open, each in its place.
pub record ArePlaced (s : State) : Type 0 where
  pub of_place : (place : ℕ) → place < length s.stack → stage_of s.stages (node_at s place) ≡ Open place
  pub of_node : (a place : ℕ) → stage_of s.stages a ≡ Open place → IsOpenAt s a place

-- Segments and the path rise along the stack. The first segment starts with the stack, and each starts at a
-- node of the path.
pub record AreRising (s : State) : Type 0 where
  pub path : IsStrictlyIncreasing s.path
  pub segments : IsStrictlyIncreasing s.segments
  pub within : (place : ℕ) → Contains s.path place → place < length s.stack
  pub starts : (place : ℕ) → Contains s.segments place → Contains s.path place
  pub first : 0 < length s.stack → Contains s.segments 0

-- The open nodes, the new ones and the components together are no more than the nodes.
pub record HasRoom (s : State) : Type 0 where
  pub fits : length s.stack + new_count s.stages + s.count ≤ length s.stages
  pub few : length s.stages < 2 ^ 32

pub record IsStored (s : State) : Type 0 where
  pub placed : ArePlaced s
  pub rising : AreRising s
  pub room : HasRoom s

-- no segment starts after the one place and up to the other
abbrev pub AreJoined : List ℕ → ℕ → ℕ → Type 0
AreJoined segments a b = (start : ℕ) → Contains segments start → a < start → b < start

-- Each open node reaches those after it, and those before it in its segment.
pub record AreReaching (edges : List Edge) (s : State) : Type 0 where
  pub forth : (a b : ℕ) → a ≤ b → b < length s.stack → Reaches edges (node_at s a) (node_at s b)
  pub back : (a b : ℕ) → a ≤ b → b < length s.stack → AreJoined s.segments a b → Reaches edges (node_at s b) (node_at s a)

-- an edge from this place of the stack to a node of this stage was followed
abbrev pub IsFollowed : List ℕ → ℕ → Stage → Type 0
IsFollowed segments place New = ⊥
IsFollowed segments place (Open end) = AreJoined segments end place
IsFollowed segments place (Closed number) = Unit {0}

-- the stage is closed with a number up to this
abbrev pub IsClosedUpTo : ℕ → Stage → Type 0
IsClosedUpTo most New = ⊥
IsClosedUpTo most (Open place) = ⊥
IsClosedUpTo most (Closed number) = number ≤ most

-- What holds of the edge in a place, by the link of its start and the stages of its ends: it remains where its
-- start is new, remains or was followed where its start is on the path, was followed where its start is another
-- open node, and leads to no greater number where its start is closed.
abbrev pub Stands : State → ℕ → ℕ → Stage → Stage → Type 0
Stands s place link New end = place < link
Stands s place link (Open start) end = (Contains s.path start × (place < link)) ⊎ IsFollowed s.segments start end
Stands s place link (Closed number) end = IsClosedUpTo number end

abbrev pub EdgeStands : State → List ℕ → ℕ → Edge → Type 0
EdgeStands s last place edge = Stands s place (slice_index last edge.from) (stage_of s.stages edge.from) (stage_of s.stages edge.to)

abbrev pub EdgesStand : List Edge → List ℕ → State → Type 0
EdgesStand edges last s = (k : ℕ) (d : Edge) → k < length edges → EdgeStands s last k (slice_index_or edges k d)

-- Numbers are below the number of components, and nodes with equal numbers reach each other.
pub record AreNumbered (edges : List Edge) (s : State) : Type 0 where
  pub below : (a number : ℕ) → stage_of s.stages a ≡ Closed number → number < s.count
  pub same : (a b number : ℕ) → stage_of s.stages a ≡ Closed number → stage_of s.stages b ≡ Closed number → Reaches edges a b

pub record IsSearch (edges : List Edge) (last : List ℕ) (s : State) : Type 0 where
  pub len : length last ≡ length s.stages
  pub stored : IsStored s
  pub reaching : AreReaching edges s
  pub edges_stand : EdgesStand edges last s
  pub numbered : AreNumbered edges s

-- before the first node
pub record IsStart (nodes : ℕ) (s : State) : Type 0 where
  pub len : length s.stages ≡ nodes
  pub all_new : (a : ℕ) → stage_of s.stages a ≡ New
  pub new_count : new_count s.stages ≡ nodes
  pub stack : s.stack ≡ []
  pub segments : s.segments ≡ []
  pub path : s.path ≡ []
  pub count : s.count ≡ 0

-- falls with each edge that is followed, each node that is entered, and each that is left
abbrev pub work : List ℕ → State → ℕ
work last s = sum last + new_count s.stages + length s.path
