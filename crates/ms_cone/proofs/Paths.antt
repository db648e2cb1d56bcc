-- Paths along a relation of atoms, and along its converse.
use Rattle.std.proofs.Common.{◌≡◌, ℕ, zero, suc, List, refl, subst}
use Rattle.std.specs.Prelude.{◌↔◌}
use Rattle.ms_join.specs.declared.ground_rule.GroundRule.{GroundRule}
use Rattle.ms_join.specs.Dependencies.{Depends, Walk, Reaches, AreTogether}
use Rattle.ms_join.proofs.Walks.{reaches_self, reaches_more, reaches_through}

-- a path of so many steps
abbrev pub Path : (ℕ → ℕ → Type 0) → ℕ → ℕ → ℕ → Type 0
Path Is zero a b = a ≡ b
Path Is (suc steps) a b = (c : ℕ) × Path Is steps a c × Is c b

pub record Leads (Is : ℕ → ℕ → Type 0) (a b : ℕ) : Type 0 where
  pub steps : ℕ
  pub path : Path Is steps a b

-- each of the two atoms leads to the other
pub record LeadToEachOther (Is : ℕ → ℕ → Type 0) (a b : ℕ) : Type 0 where
  pub forth : Leads Is a b
  pub back : Leads Is b a

module _ (Is : ℕ → ℕ → Type 0) where
  pub leads_self : (a : ℕ) → Leads Is a a
  leads_self a = record { steps = zero; path = refl }

  pub leads_more : (a b c : ℕ) → Leads Is a b → Is b c → Leads Is a c
  leads_more a b c leads is = record { steps = suc leads.steps; path = (b, leads.path, is) }

  path_joined : (steps a b c : ℕ) → Leads Is a b → Path Is steps b c → Leads Is a c
  path_joined zero a b c leads path = subst (λ x. Leads Is a x) path leads
  path_joined (suc steps) a b c leads path = leads_more a path.0 c (path_joined steps a b path.0 leads path.1) path.2

  pub leads_through : (a b c : ℕ) → Leads Is a b → Leads Is b c → Leads Is a c
  leads_through a b c first then = path_joined then.steps a b c first then.path

module _ (Is : ℕ → ℕ → Type 0) (rules : List GroundRule) where
  -- where the relation is the dependency of rules
  reaches_by_path : ((a b : ℕ) → Is a b → Depends rules a b) → (steps a b : ℕ) → Path Is steps a b → Reaches rules a b
  reaches_by_path only zero a b path = subst (λ x. Reaches rules a x) path (reaches_self rules a)
  reaches_by_path only (suc steps) a b path = reaches_more rules a path.0 b (reaches_by_path only steps a path.0 path.1) (only path.0 b path.2)

  path_by_walk : ((a b : ℕ) → Depends rules a b → Is a b) → (steps a b : ℕ) → Walk rules steps a b → Leads Is a b
  unfolding Walk
  path_by_walk each zero a b walk = subst (λ x. Leads Is a x) walk (leads_self Is a)
  path_by_walk each (suc steps) a b walk = leads_more Is a walk.0 b (path_by_walk each steps a walk.0 walk.1) (each walk.0 b walk.2)

  pub together_along : ((a b : ℕ) → Is a b ↔ Depends rules a b) → (a b : ℕ) → LeadToEachOther Is a b ↔ AreTogether rules a b
  together_along same a b =
      let only : (x y : ℕ) → Is x y → Depends rules x y = λ x y. (same x y).0 in
      let each : (x y : ℕ) → Depends rules x y → Is x y = λ x y. (same x y).1 in (
        λ lead. record { forth = reaches_by_path only lead.forth.steps a b lead.forth.path; back = reaches_by_path only lead.back.steps b a lead.back.path },
        λ together. record { forth = path_by_walk each together.forth.steps a b together.forth.walk; back = path_by_walk each together.back.steps b a together.back.walk },
      )

  -- where it is the converse of that
  reaches_against_path : ((a b : ℕ) → Is a b → Depends rules b a) → (steps a b : ℕ) → Path Is steps a b → Reaches rules b a
  reaches_against_path only zero a b path = subst (λ x. Reaches rules x a) path (reaches_self rules a)
  reaches_against_path only (suc steps) a b path =
      let first : Reaches rules b path.0 = reaches_more rules b b path.0 (reaches_self rules b) (only path.0 b path.2) in
      reaches_through rules b path.0 a first (reaches_against_path only steps a path.0 path.1)

  path_against_walk : ((a b : ℕ) → Depends rules b a → Is a b) → (steps a b : ℕ) → Walk rules steps a b → Leads Is b a
  unfolding Walk
  path_against_walk each zero a b walk = subst (λ x. Leads Is x a) walk (leads_self Is a)
  path_against_walk each (suc steps) a b walk =
      let first : Leads Is b walk.0 = leads_more Is b b walk.0 (leads_self Is b) (each b walk.0 walk.2) in
      leads_through Is b walk.0 a first (path_against_walk each steps a walk.0 walk.1)

  pub together_against : ((a b : ℕ) → Is a b ↔ Depends rules b a) → (a b : ℕ) → LeadToEachOther Is a b ↔ AreTogether rules a b
  together_against same a b =
      let only : (x y : ℕ) → Is x y → Depends rules y x = λ x y. (same x y).0 in
      let each : (x y : ℕ) → Depends rules y x → Is x y = λ x y. (same x y).1 in (
        λ lead. record { forth = reaches_against_path only lead.back.steps b a lead.back.path; back = reaches_against_path only lead.forth.steps a b lead.forth.path },
        λ together. record { forth = path_against_walk each together.back.steps b a together.back.walk; back = path_against_walk each together.forth.steps a b together.forth.walk },
      )
