-- The terms of those atoms of a set that are shown, by their names in a table.
use Rattle.std.specs.Prelude.{ℕ, ◌<◌, Bool, List, All, filter, length, map, slice_index_or}
use Rattle.ms_tree.specs.Tree.{Tree}
use Rattle.ms_term.specs.Terms.{term_at}
use Rattle.ms_solving.specs.Listing.{IsShownList}

-- the names are names of the table
abbrev pub AreIn : List Tree → List ℕ → Type 0
AreIn table names = All (λ n. n < length table) names

-- the term of the atom, by its name
abbrev pub name_of : List ℕ → ℕ → ℕ
name_of base a = slice_index_or base a 0

-- in the order of the set
abbrev pub shown_of : List Tree → (Tree → Bool) → List ℕ → List ℕ → List ℕ
shown_of table shows base set = filter (λ n. shows (term_at table n)) (map (name_of base) set)

-- The names of the shown list of the set, which are names of the table.
pub record IsShownOf (table : List Tree) (shows : Tree → Bool) (base set shown : List ℕ) : Type 0 where
  pub list : IsShownList shows (map (term_at table) base) set (map (term_at table) shown)
  pub within : AreIn table shown
