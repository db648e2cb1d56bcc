-- Instances with a head that is too large.
use Rattle.std.specs.Prelude.{ℕ, ◌<◌, ◌⊎◌, List, Any, IsSomeAnd}
use Rattle.ms_tree.specs.Tree.{Tree}
use Rattle.ms_tree.specs.Size.{tree_size}
use Rattle.ms_term.specs.Terms.{term_at}
use Rattle.ms_copies.specs.Limits.{most_symbols}
use Rattle.ms_instances.specs.declared.instance.Instance.{Instance}

-- the instance has a head of more symbols than an atom may have
abbrev pub IsLargeHead : List Tree → Instance → Type 0
IsLargeHead table i = IsSomeAnd i.head (λ n. most_symbols < tree_size (term_at table n))

abbrev pub HasLargeHead : List Tree → List Instance → Type 0
HasLargeHead table instances = Any (IsLargeHead table) instances

-- an atom of the base or a head has more symbols than an atom may have
abbrev pub HasLarge : List Tree → List ℕ → List Instance → Type 0
HasLarge table base instances = Any (λ n. most_symbols < tree_size (term_at table n)) base ⊎ HasLargeHead table instances
