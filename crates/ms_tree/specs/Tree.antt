-- Ground terms, after the terms of ASP-Core-2, with the strings of bytes and the tuples of clingo.
use Rattle.std.specs.Prelude.{ℕ, ◌+◌, ℤ, List}

mutual
  -- An integer, a string of bytes, or a function: its name and its arguments. A constant is a function
  -- without arguments, and a tuple is a function whose name is empty.
  pub data Tree : Type 0 where
    number : ℤ → Tree
    text : List ℕ → Tree
    function : List ℕ → Trees → Tree

  -- The arguments of a function, from left to right.
  pub data Trees : Type 0 where
    no_tree : Trees
    tree : Tree → Trees → Trees

abbrev pub tree_count : Trees → ℕ
tree_count no_tree = 0
tree_count (tree t ts) = tree_count ts + 1
