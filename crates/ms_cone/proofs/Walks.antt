-- Walks along the dependencies of rules.
use Rattle.std.proofs.Common.{◌≡◌, ◌<◌, ◌⊎◌, ℕ, zero, suc, List, [], ◌++◌, Option, Some, All, Any, IsSomeAnd, inl, inr, refl, sym, ◌∙◌, subst, arith}
use Rattle.std.proofs.lemmas.List.Elements.{All-contains}
use Rattle.std.proofs.lemmas.Option.{none-some}
use Rattle.ms_join.specs.declared.aggregate.SignedAgg.{SignedAgg}
use Rattle.ms_join.specs.declared.ground_rule.GroundRule.{GroundRule}
use Rattle.ms_join.specs.declared.ground_rule.GroundKind.{GroundKind}
use Rattle.ms_join.specs.declared.ground_rule.GroundKind.TheVariants.{Normal, Choice, Constraint}
use Rattle.ms_join.specs.AnswerSets.{IsRuleOver, HasHead}
use Rattle.ms_join.specs.Dependencies.{Depends, Walk, Reaches}
use Rattle.ms_cone.specs.Dependencies.{Needs, NeedsInSigned}
use Rattle.ms_cone.proofs.Elements.{any_cases, any_left, any_right}

-- a rule with the one atom as its head needs the other
abbrev pub DependsBy : ℕ → ℕ → GroundRule → Type 0
DependsBy a b rule = (rule.head ≡ Some a) × Needs rule b

pub by_rule : (rules : List GroundRule) (a b : ℕ) → Any (DependsBy a b) rules → Depends rules a b
by_rule rules a b (k, rule, within, at, is) = elim is.1 [
  | inl pos ↦ inl (k, rule, within, at, (is.0, pos))
  | inr inside ↦ inr (k, rule, within, at, (is.0, inside))
]

pub rule_of : (rules : List GroundRule) (a b : ℕ) → Depends rules a b → Any (DependsBy a b) rules
rule_of rules a b (inl (k, rule, within, at, is)) = (k, rule, within, at, (is.0, inl is.1))
rule_of rules a b (inr (k, rule, within, at, is)) = (k, rule, within, at, (is.0, inr is.1))

-- a rule of two lists by which the one atom depends on the other
pub depends_cases : (old new : List GroundRule) (a b : ℕ) → Depends (old ++ new) a b → Depends old a b ⊎ Depends new a b
depends_cases old new a b is = elim (any_cases (DependsBy a b) old new (rule_of (old ++ new) a b is)) [
  | inl there ↦ inl (by_rule old a b there)
  | inr there ↦ inr (by_rule new a b there)
]

pub depends_left : (old new : List GroundRule) (a b : ℕ) → Depends old a b → Depends (old ++ new) a b
depends_left old new a b is = by_rule (old ++ new) a b (any_left (DependsBy a b) old new (rule_of old a b is))

pub depends_right : (old new : List GroundRule) (a b : ℕ) → Depends new a b → Depends (old ++ new) a b
depends_right old new a b is = by_rule (old ++ new) a b (any_right (DependsBy a b) old new (rule_of new a b is))

-- ---- rules over the atoms below a number

head_below : (n : ℕ) (kind : GroundKind) (head : Option ℕ) (a : ℕ) → HasHead n kind head → head ≡ Some a → a < n
head_below n Normal head a has is = subst (λ h. IsSomeAnd h (λ x. x < n)) is has
head_below n Choice head a has is = subst (λ h. IsSomeAnd h (λ x. x < n)) is has
head_below n Constraint head a has is = absurd (none-some a (sym has ∙ is))

none_in_empty : (b : ℕ) (aggs : List SignedAgg) → aggs ≡ [] → ¬ Any (NeedsInSigned b) aggs
none_in_empty b aggs empty any =
    let inside : Any (NeedsInSigned b) [] = subst (λ (ss : List SignedAgg). Any (NeedsInSigned b) ss) empty any in
    let less = inside.2 in
    omega (arith, less)

need_below : (n : ℕ) (rule : GroundRule) (b : ℕ) → IsRuleOver n rule → Needs rule b → b < n
need_below n rule b is (inl pos) = All-contains (λ x. x < n) rule.pos b is.pos pos
need_below n rule b is (inr inside) = absurd (none_in_empty b rule.aggs is.plain inside)

-- what depends on another atom, and what it depends on, are below the number
pub record AreBelow (n a b : ℕ) : Type 0 where
  pub head : a < n
  pub atom : b < n

pub depends_below : (n : ℕ) (rules : List GroundRule) (a b : ℕ) → All (IsRuleOver n) rules → Depends rules a b → AreBelow n a b
depends_below n rules a b over depends =
    let (k, rule, within, at, is) = rule_of rules a b depends in
    let is_over : IsRuleOver n rule = All-contains (IsRuleOver n) rules rule over (k, within, at) in
    record { head = head_below n rule.kind rule.head a is_over.head is.0; atom = need_below n rule b is_over is.1 }
