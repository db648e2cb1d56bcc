-- How lists of watches are linked.
use Rattle.std.specs.Prelude.{ℕ, ◌≡◌, ◌<◌, ◌≤◌, ◌+◌, ◌-◌, ◌==◌, ◌∷◌, ◌++◌, [], List, All, map, cond, length, slice_index, slice_set, false}
use Rattle.std.specs.List.{slice_index_or}
use Rattle.ms_lits.specs.declared.lit.Lit.{Lit}
use Rattle.ms_watch.specs.declared.lists.Watch.{Watch}
use Rattle.ms_watch.specs.declared.lists.Node.{Node}

-- For each list 0 or one more than the place of its first node, and the nodes.
pub record Links : Type 0 where
  pub heads : List ℕ
  pub nodes : List Node

-- The list has a first watch.
pub record HasFront (links : Links) (list : ℕ) (watch : Watch) : Type 0 where
  pub place : ℕ
  pub head : slice_index links.heads list ≡ place + 1
  pub within : place < length links.nodes
  pub same : (d : Node) → (slice_index_or links.nodes place d).watch ≡ watch

-- There are at least so many lists, the new ones empty.
pub record IsGrown (old new : Links) (count : ℕ) : Type 0 where
  pub nodes : new.nodes ≡ old.nodes
  pub heads : (list : ℕ) → slice_index new.heads list ≡ slice_index old.heads list
  pub longer : length old.heads ≤ length new.heads
  pub enough : count ≤ length new.heads

abbrev pub no_node : Node
no_node = record { watch = record { key = 0; blocker = record { var = 0; truth = false } }; next = 0 }

-- the first node of a list taken out, and put in front of another with this watch
abbrev pub relinked : Links → ℕ → ℕ → Watch → Links
relinked links from to watch =
    let head = slice_index links.heads from in
    let heads = slice_set links.heads from (slice_index_or links.nodes (head - 1) no_node).next in
    record {
      heads = slice_set heads to head;
      nodes = slice_set links.nodes (head - 1) (record { watch = watch; next = slice_index heads to });
    }

-- a new node in front of a list
abbrev pub added : Links → ℕ → Watch → Links
added links list watch = record {
  heads = slice_set links.heads list (length links.nodes + 1);
  nodes = links.nodes ++ record { watch = watch; next = slice_index links.heads list } ∷ [];
}

abbrev pub swapped : Links → ℕ → ℕ → Links
swapped links one other = record {
  heads = slice_set (slice_set links.heads one (slice_index links.heads other)) other (slice_index links.heads one);
  nodes = links.nodes;
}

-- From a start on stand these places of nodes, none twice.
abbrev pub LinksTo : List Node → ℕ → List ℕ → Type 0
LinksTo nodes start [] = start ≡ 0
LinksTo nodes start (place ∷ more) = (start ≡ place + 1) × (place < length nodes) × All (λ other. other ≡ place → ⊥) more × LinksTo nodes (slice_index_or nodes place no_node).next more

abbrev pub watch_at : List Node → ℕ → Watch
watch_at nodes place = (slice_index_or nodes place no_node).watch

-- Under each number the links have this list. Each node is in one list.
pub record HaveLists (links : Links) (lists : ℕ → List Watch) : Type 0 where
  pub chains : ℕ → List ℕ
  pub owner : ℕ → ℕ
  pub linked : (list : ℕ) → LinksTo links.nodes (slice_index links.heads list) (chains list)
  pub owned : (list : ℕ) → All (λ place. owner place ≡ list) (chains list)
  pub shown : (list : ℕ) → lists list ≡ map (watch_at links.nodes) (chains list)

-- the lists with another under one number
abbrev pub put : {X : Type 0} → (ℕ → X) → ℕ → X → ℕ → X
put values at value = λ n. cond (n == at) value (values n)
