-- The dependencies of rules as links of both directions.
use Rattle.std.specs.Prelude.{ℕ, ◌↔◌, ◌⊎◌, List, Any, Contains}
use Rattle.ms_join.specs.declared.aggregate.GroundElement.{GroundElement}
use Rattle.ms_join.specs.declared.aggregate.SignedAgg.{SignedAgg}
use Rattle.ms_join.specs.declared.ground_rule.GroundRule.{GroundRule}
use Rattle.ms_join.specs.Dependencies.{Depends, NeedsInAggregate}
use Rattle.ms_cone.specs.declared.links.Link.{Link}
use Rattle.ms_cone.specs.Links.{IsLinked, AddsLinks, HaveEndsBelow}

-- the atom is a positive atom of the element, and of one of the elements of the aggregate
abbrev pub NeedsInElement : ℕ → GroundElement → Type 0
NeedsInElement b e = Contains e.pos b

abbrev pub NeedsInSigned : ℕ → SignedAgg → Type 0
NeedsInSigned b s = Any (NeedsInElement b) s.agg.elements

-- the atom is a positive atom of the rule, or one of an element of its aggregates
abbrev pub Needs : GroundRule → ℕ → Type 0
Needs rule b = Contains rule.pos b ⊎ NeedsInAggregate rule b

-- Links from heads to the atoms that they need, and from those to the heads.
pub record Linked : Type 0 where
  pub needs : List Link
  pub uses : List Link

-- The links of each direction are exactly the dependencies by the rules.
pub record Keeps (d : Linked) (rules : List GroundRule) : Type 0 where
  pub needs : (a b : ℕ) → IsLinked d.needs a b ↔ Depends rules a b
  pub uses : (a b : ℕ) → IsLinked d.uses b a ↔ Depends rules a b

-- the links lead to atoms below the number
pub record IsBelow (atoms : ℕ) (d : Linked) : Type 0 where
  pub needs : HaveEndsBelow atoms d.needs
  pub uses : HaveEndsBelow atoms d.uses

-- The atoms of which it holds become linked, both ways.
pub record Adds (old new : Linked) (Is : ℕ → ℕ → Type 0) : Type 0 where
  pub needs : AddsLinks old.needs new.needs Is
  pub uses : AddsLinks old.uses new.uses (λ b a. Is a b)
