-- Names of terms, in the order of their terms.
use Rattle.std.specs.Prelude.{ℕ, ◌↔◌, ◌≤◌, List, Contains, length, map}
use Rattle.std.specs.List.Sorted.{IsStrictlySortedBy}
use Rattle.ms_tree.specs.Tree.{Tree}
use Rattle.ms_tree.specs.Order.{compare_trees}
use Rattle.ms_term.specs.Terms.{term_at}

-- The names in the order of their terms, each of them once.
pub record IsInTermOrder (table : List Tree) (names ordered : List ℕ) : Type 0 where
  pub rising : IsStrictlySortedBy compare_trees (map (term_at table) ordered)
  pub members : (n : ℕ) → Contains ordered n ↔ Contains names n
  pub few : length ordered ≤ length names
