-- The terms of atoms.
use Rattle.std.specs.Prelude.{ℕ, ◌≡◌, ◌≢◌, ◌⊎◌, List, map}
use Rattle.std.specs.declared.cmp.Ordering.TheVariants.{Less}
use Rattle.ms_tree.specs.Tree.{Tree}
use Rattle.ms_tree.specs.Order.{compare_trees}
use Rattle.ms_term.specs.Terms.{term_at}
use Rattle.ms_join.specs.Composability.{name_of}

-- the terms of the atoms of a base
abbrev pub names_of : List Tree → List ℕ → List Tree
names_of table base = map (term_at table) base

-- the first atom where its term is less, and else the second
abbrev pub IsLesser : List Tree → ℕ → ℕ → ℕ → Type 0
IsLesser names a b c =
    ((c ≡ a) × (compare_trees (name_of names a) (name_of names b) ≡ Less))
    ⊎ ((c ≡ b) × (compare_trees (name_of names a) (name_of names b) ≢ Less))
