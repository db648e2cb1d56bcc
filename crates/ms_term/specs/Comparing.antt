-- What is known of the order of two terms.
use Rattle.std.specs.Prelude.{◌≡◌, ℕ, ◌<◌, List, length}
use Rattle.std.specs.declared.cmp.Ordering.{Ordering}
use Rattle.ms_tree.specs.Tree.{Tree}
use Rattle.ms_tree.specs.Order.{compare_trees}
use Rattle.ms_term.specs.declared.comparing.Comparison.{Comparison}
use Rattle.ms_term.specs.declared.comparing.Comparison.TheVariants.{Decided, Arguments}
use Rattle.ms_term.specs.Terms.{term_at}

-- the terms of these names have the order, and the first of them is below n
pub record HasOrder (ts : List Tree) (n : ℕ) (order : Ordering) (i j : ℕ) : Type 0 where
  pub below : i < n
  pub within : j < length ts
  pub same : compare_trees (term_at ts i) (term_at ts j) ≡ order

abbrev pub IsComparison : List Tree → ℕ → Ordering → Comparison → Type 0
IsComparison ts n order (Decided o) = o ≡ order
IsComparison ts n order (Arguments i j) = HasOrder ts n order i j
