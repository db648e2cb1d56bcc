-- What is demanded of atoms, by their numbers.
use Rattle.std.specs.Prelude.{ℕ, ◌≡◌, ◌↔◌, ◌⊎◌, true, List, Option, Some, Any, Contains, slice_get}
use Rattle.ms_tree.specs.Tree.{Tree}
use Rattle.ms_call.specs.declared.command.Assumption.{Assumption}
use Rattle.ms_join.specs.declared.assumption.AtomLit.{AtomLit}
use Rattle.ms_join.specs.declared.ground_rule.Input.{Input}
use Rattle.ms_solving.specs.Listing.{tree_of_value}
use Rattle.ms_session.specs.Kept.{IsNumberOf}

-- the value of one of the inputs
abbrev pub IsValue : List Input → AtomLit → Type 0
IsValue inputs lit = Contains inputs (record { atom = lit.atom; value = Some lit.truth })

-- what one of the assumptions says of an atom with these terms
abbrev pub IsAssumed : List Tree → List Assumption → AtomLit → Type 0
IsAssumed names assume lit = Any (λ given. (slice_get names lit.atom ≡ Some (tree_of_value given.atom)) × (lit.truth ≡ given.truth)) assume

-- The literals are exactly those of which it holds.
abbrev pub AreExactly : (AtomLit → Type 0) → List AtomLit → Type 0
AreExactly Is lits = (lit : AtomLit) → Contains lits lit ↔ Is lit

-- What is assumed is there beside the old literals, and nothing else.
abbrev pub AddsAssumed : List Tree → List Assumption → List AtomLit → List AtomLit → Type 0
AddsAssumed names assume old new = AreExactly (λ lit. Contains old lit ⊎ IsAssumed names assume lit) new

-- An atom with none of these terms is assumed true.
abbrev pub IsImpossibleFor : List Tree → List Assumption → Type 0
IsImpossibleFor names assume = Any (λ given. (given.truth ≡ true) × ¬ Contains names (tree_of_value given.atom)) assume

-- The atom that is assumed has one number, or none.
abbrev pub IsKnown : List Tree → Assumption → Type 0
IsKnown names given = (number : Option ℕ) × IsNumberOf names (tree_of_value given.atom) number
