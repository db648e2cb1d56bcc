-- Terms under the names that a table has for them.
use Rattle.std.specs.Prelude.{ℕ, ◌≡◌, ◌⊎◌, List, Option, MatchOption, Vec, length}
use Rattle.std.specs.Global.{Global}
use Rattle.ms_tree.specs.Tree.{Tree, Trees, no_tree, tree}
use Rattle.ms_term.specs.Terms.{terms_at, AllBelow, HasNo, IsNameOf}

-- the name of the term, or none exactly where the table has none
abbrev pub IsNamedIn : List Tree → Tree → Option ℕ → Type 0
IsNamedIn table t name = MatchOption name (HasNo table t) (IsNameOf table t)

-- the table lacks one of the terms
abbrev pub LacksOne : List Tree → Trees → Type 0
LacksOne table no_tree = ⊥
LacksOne table (tree t ts) = HasNo table t ⊎ LacksOne table ts

-- the names of terms side by side, or none exactly where the table lacks one of them
abbrev pub AreNamedIn : List Tree → Trees → Option (Vec ℕ Global) → Type 0
AreNamedIn table ts names = MatchOption names (LacksOne table ts) (λ is. AllBelow (length table) is.items × (terms_at table is.items ≡ ts))
