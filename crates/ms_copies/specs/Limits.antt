-- When a grounding is too large. The limits are this project's own.
use Rattle.std.specs.Prelude.{ℕ, ◌+◌, ◌<◌, ◌≢◌, ◌⊎◌, List, length, All, AllPairs, IsSomeAnd, slice_get}
pub use Rattle.ms_base.specs.Limits.{most_copies, most_symbols}
use Rattle.ms_tree.specs.Tree.{Tree}
use Rattle.ms_tree.specs.Size.{tree_size}
use Rattle.ms_core.specs.declared.rule.CoreRule.{CoreRule}
use Rattle.ms_copies.specs.Evaluating.{Chosen}
use Rattle.ms_copies.specs.Choosing.{IsCopy, IsElementCopy}
use Rattle.ms_copies.specs.Grounding.{IsKnown}

-- the place of a rule in a list, and a choice for its ranges
pub record Copy : Type 0 where
  pub place : ℕ
  pub chosen : Chosen

-- a copy, the place of an aggregate in its rule, the place of an element there, and a choice for its ranges
pub record ElementCopy : Type 0 where
  pub of : Copy
  pub aggregate : ℕ
  pub element : ℕ
  pub chosen : Chosen

abbrev pub IsCopyOf : List CoreRule → Copy → Type 0
IsCopyOf rules c = IsSomeAnd (slice_get rules c.place) (λ rule. IsCopy rule c.chosen)

abbrev pub IsElementCopyIn : CoreRule → ElementCopy → Type 0
IsElementCopyIn rule e = IsSomeAnd (slice_get rule.aggs e.aggregate) (λ a. IsSomeAnd (slice_get a.elements e.element) (λ element. IsElementCopy e.of.chosen element e.chosen))

abbrev pub IsElementCopyOf : List CoreRule → ElementCopy → Type 0
IsElementCopyOf rules e = IsCopyOf rules e.of × IsSomeAnd (slice_get rules e.of.place) (λ rule. IsElementCopyIn rule e)

-- There are more copies of the rules and, for each of these, of the elements of its aggregates than there may be.
pub record HasTooManyCopies (rules : List CoreRule) : Type 0 where
  pub copies : List Copy
  pub elements : List ElementCopy
  pub are_copies : All (IsCopyOf rules) copies
  pub are_elements : All (IsElementCopyOf rules) elements
  pub copies_once : AllPairs (λ c d. c ≢ d) copies
  pub elements_once : AllPairs (λ c d. c ≢ d) elements
  pub many : most_copies < length copies + length elements

-- A known atom has more symbols than one may have.
abbrev pub HasLargeAtom : List Tree → List CoreRule → Type 0
HasLargeAtom base rules = (t : Tree) × IsKnown base rules t × (most_symbols < tree_size t)

abbrev pub IsTooLarge : List Tree → List CoreRule → Type 0
IsTooLarge base rules = HasTooManyCopies rules ⊎ HasLargeAtom base rules
