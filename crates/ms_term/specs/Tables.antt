-- The nodes of a table, and the terms that they keep.
use Rattle.std.specs.Prelude.{◌≡◌, ℕ, ◌<◌, ◌≤◌, ◌⊎◌, List, [], ◌∷◌, ◌++◌, length, slice_index_or, ⊤}
use Rattle.ms_tree.specs.Tree.{Tree, number, text, function}
use Rattle.ms_tree.specs.Size.{tree_size}
use Rattle.ms_term.specs.declared.node.Node.{Node}
use Rattle.ms_term.specs.declared.node.Node.TheVariants.{Number, Text, Function}
use Rattle.ms_term.specs.declared.table.Table.{Table}
use Rattle.ms_term.specs.Terms.{term_at, terms_at, held, AllBelow, AllDifferent, IsLarge, Names, most_symbols}
use Rattle.ms_term.specs.Words.{word_at, AreOnce}

-- the term of a node whose arguments are among the terms before it
abbrev pub tree_of : List (List ℕ) → List Tree → Node → Tree
tree_of ws ts (Number n) = number n
tree_of ws ts (Text word) = text (word_at ws word)
tree_of ws ts (Function name arguments size) = function (word_at ws name) (terms_at ts arguments.items)

abbrev pub trees_from : List (List ℕ) → List Tree → List Node → List Tree
trees_from ws ts [] = ts
trees_from ws ts (n ∷ ns) = trees_from ws (ts ++ tree_of ws ts n ∷ []) ns

-- the terms of a table by their names
abbrev pub trees : List (List ℕ) → List Node → List Tree
trees ws nodes = trees_from ws [] nodes

abbrev pub ArgumentsBelow : ℕ → Node → Type 0
ArgumentsBelow n (Number k) = ⊤
ArgumentsBelow n (Text word) = ⊤
ArgumentsBelow n (Function name arguments size) = AllBelow n arguments.items

abbrev pub WordBelow : ℕ → Node → Type 0
WordBelow n (Number k) = ⊤
WordBelow n (Text word) = word < n
WordBelow n (Function name arguments size) = name < n

abbrev pub node_size : Node → ℕ
node_size (Number k) = 1
node_size (Text word) = 1
node_size (Function name arguments size) = size

-- The words and the arguments of a node are there, and its size is that of its term.
pub record Fits (ws : List (List ℕ)) (ts : List Tree) (n : Node) : Type 0 where
  pub word : WordBelow (length ws) n
  pub below : ArgumentsBelow (length ts) n
  pub size : node_size n ≡ held (tree_size (tree_of ws ts n))

-- the node of the term that is named i
pub record Describes (ws : List (List ℕ)) (ts : List Tree) (i : ℕ) (n : Node) : Type 0 where
  pub is : term_at ts i ≡ tree_of ws ts n
  pub word : WordBelow (length ws) n
  pub below : ArgumentsBelow i n
  pub size : node_size n ≡ held (tree_size (tree_of ws ts n))

pub record IsTable (ws : List (List ℕ)) (nodes : List Node) (ts : List Tree) : Type 0 where
  pub count : length ts ≡ length nodes
  pub stands : (i : ℕ) (n : Node) → i < length nodes → n ≡ slice_index_or nodes i n → Describes ws ts i n
  pub different : AllDifferent ts
  pub once : AreOnce ws

-- The terms before this place aren't large, and the one that stands there is.
pub record IsSmallFront (ts : List Tree) (small : ℕ) : Type 0 where
  pub within : small ≤ length ts
  pub before : (i : ℕ) → i < small → ¬ IsLarge (term_at ts i)
  pub next : small < length ts → IsLarge (term_at ts small)

-- a table, and how many terms stand before its first large one
pub record IsKept (ws : List (List ℕ)) (nodes : List Node) (small : ℕ) : Type 0 where
  pub table : IsTable ws nodes (trees ws nodes)
  pub front : IsSmallFront (trees ws nodes) small

-- how many terms stand before the first large one, where a term of that size stands at the place
abbrev pub IsSmallWith : ℕ → ℕ → ℕ → ℕ → ℕ → Type 0
IsSmallWith small place len size next = ((place ≡ small) × (size ≤ most_symbols) × (next ≡ len)) ⊎ ((place ≡ small → most_symbols < size) × (next ≡ small))

-- What an insertion of a node leaves, where it fits into the table: a table of the same terms and the node's, and its place.
abbrev pub IsInserted : Table → Table → Node → ℕ → Type 0
IsInserted old new node place = (ws : List (List ℕ)) → IsKept ws old.nodes.keys old.small → Fits ws (trees ws old.nodes.keys) node
    → IsKept ws new.nodes.keys new.small × Names (trees ws old.nodes.keys) (trees ws new.nodes.keys) (tree_of ws (trees ws old.nodes.keys) node) place

pub record IsSameTable (old new : Table) : Type 0 where
  pub nodes : new.nodes.keys ≡ old.nodes.keys
  pub small : new.small ≡ old.small
