-- How many symbols a ground term has: the nodes of its tree.
use Rattle.std.specs.Prelude.{ℕ, ◌+◌}
use Rattle.ms_tree.specs.Tree.{Tree, number, text, function, Trees, no_tree, tree}

abbrev mutual
  pub tree_size : Tree → ℕ
  tree_size (number n) = 1
  tree_size (text s) = 1
  tree_size (function f ts) = 1 + sizes ts

  -- of all arguments together
  pub sizes : Trees → ℕ
  sizes no_tree = 0
  sizes (tree t ts) = tree_size t + sizes ts
