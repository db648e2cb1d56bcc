-- The order of ground terms. It is this project's own: integers come first, by value, then strings, by
-- bytes, then functions, by the number of their arguments, then by name as bytes, then by their
-- arguments from left to right.
use Rattle.std.specs.declared.cmp.Ordering.{Ordering}
use Rattle.std.specs.declared.cmp.Ordering.TheVariants.{Less, Equal, Greater}
use Rattle.std.specs.Ordering.{nat_cmp, int_cmp, ordering_then}
use Rattle.std.specs.Cmp.Lexicographic.{slice_cmp}
use Rattle.ms_tree.specs.Tree.{Tree, number, text, function, Trees, no_tree, tree, tree_count}

abbrev mutual
  pub compare_trees : Tree → Tree → Ordering
  compare_trees (number m) (number n) = int_cmp m n
  compare_trees (number m) (text t) = Less
  compare_trees (number m) (function g us) = Less
  compare_trees (text s) (number n) = Greater
  compare_trees (text s) (text t) = slice_cmp nat_cmp s t
  compare_trees (text s) (function g us) = Less
  compare_trees (function f ts) (number n) = Greater
  compare_trees (function f ts) (text t) = Greater
  compare_trees (function f ts) (function g us) =
      ordering_then (nat_cmp (tree_count ts) (tree_count us))
      (ordering_then (slice_cmp nat_cmp f g) (compare_all ts us))

  -- the first arguments that differ decide
  pub compare_all : Trees → Trees → Ordering
  compare_all no_tree no_tree = Equal
  compare_all no_tree (tree u us) = Less
  compare_all (tree t ts) no_tree = Greater
  compare_all (tree t ts) (tree u us) = ordering_then (compare_trees t u) (compare_all ts us)
