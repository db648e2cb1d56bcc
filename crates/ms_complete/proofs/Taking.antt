-- What taking a module does to the things: they are those of the new join.
use Rattle.std.proofs.Common.{◌≡◌, ◌∙◌, ◌⊎◌, ◌+◌, ◌<◌, ◌≤◌, ℕ, List, Option, Some, None, refl, sym, ap, subst, inl, inr, arith}
use Rattle.std.specs.Prelude.{IsSomeAnd}
use Rattle.std.specs.List.{All, Any, Contains}
use Rattle.std.proofs.lemmas.Bool.{cases_lt}
use Rattle.std.proofs.lemmas.List.Elements.{All-contains, Contains-append_cases, Contains-append_left}
use Rattle.ms_join.specs.declared.ground_rule.GroundKind.{GroundKind}
use Rattle.ms_join.specs.declared.ground_rule.GroundKind.TheVariants.{Normal, Choice, Constraint}
use Rattle.ms_join.specs.declared.ground_rule.GroundRule.{GroundRule}
use Rattle.ms_join.specs.declared.aggregate.SignedAgg.{SignedAgg}
use Rattle.ms_join.specs.declared.aggregate.GroundAgg.{GroundAgg}
use Rattle.ms_join.specs.declared.aggregate.GroundElement.{GroundElement}
use Rattle.ms_join.specs.declared.ground_module.GroundModule.{GroundModule}
use Rattle.ms_join.specs.AnswerSets.{IsRuleOver, HasHead}
use Rattle.ms_join.specs.Modules.{Join, IsJoined, IsWellFormed}
use Rattle.ms_join.specs.Things.{Body, Tuple, Thing, IsThing, IsThingOf, AnyElement, AnyAggregate, body_of, condition_of, tuple_of}
use Rattle.ms_join.specs.Things.Thing.{atom, body, tuple, aggregate}
use Rattle.ms_things.specs.Numbers.{AreThings}
use Rattle.ms_complete.specs.declared.key.NumberedRule.{NumberedRule}
use Rattle.ms_complete.specs.Keys.{plain_body}
use Rattle.ms_complete.specs.Numbering.{Numbering, AreDeclared, Declares, IsAtomOf, IsNewAtom, IsOfRule, IsHeadThing, IsFrom}
use Rattle.ms_complete.specs.Rules.{IsNumbered}
use Rattle.ms_complete.specs.Sets.{Match}
use Rattle.ms_complete.proofs.Lists.{any_from, any_left, any_right, any_cases, any_none, member_of, some_at, none_is_some}
use Rattle.ms_complete.proofs.NumberLaws.{keeps_member}

-- the things of a module are numbered
pub record Declared (old new : Numbering) (m : GroundModule) (rules : List NumberedRule) : Type 0 where
  pub declares : Declares (IsFrom m) old new
  pub are : AreDeclared new.things
  pub atoms : (a : ℕ) → m.first_new ≤ a → a < m.first_new + m.fresh → Contains new.things (atom a)
  pub numbered : Match (IsNumbered new.things) m.rules rules

-- the body of a rule without aggregates
pub plain_is : (n : ℕ) (rule : GroundRule) → IsRuleOver n rule → plain_body rule ≡ body_of rule
plain_is n rule over = ap (λ (aggs : List SignedAgg). let b : Body = record { pos = rule.pos; neg = rule.neg; aggs = aggs } in b) (sym over.plain)

pub no_aggregate : (n : ℕ) (rule : GroundRule) → IsRuleOver n rule → (Is : GroundAgg → Type 0) → ¬ AnyAggregate Is rule
no_aggregate n rule over Is some =
    any_none (λ (s : SignedAgg). Is s.agg) (subst (λ (aggs : List SignedAgg). Any (λ (s : SignedAgg). Is s.agg) aggs) over.plain some)

pub no_element : (n : ℕ) (rule : GroundRule) → IsRuleOver n rule → (Is : GroundAgg → GroundElement → Type 0) → ¬ AnyElement Is rule
no_element n rule over Is some = no_aggregate n rule over (λ g. Any (Is g) g.elements) some

-- the head of a rule over so many atoms is among them
pub head_within : (n : ℕ) (kind : GroundKind) (head : Option ℕ) (h : ℕ) → HasHead n kind head → head ≡ Some h → h < n
head_within n Normal head h has is = subst (λ (o : Option ℕ). IsSomeAnd o (λ a. a < n)) is has
head_within n Choice head h has is = subst (λ (o : Option ℕ). IsSomeAnd o (λ a. a < n)) is has
head_within n Constraint head h has is = absurd (none_is_some h (sym has ∙ is))

module _ (j joined : Join) (m : GroundModule) (is : IsJoined j m joined) where
  more_atoms : (a : ℕ) → a < j.atoms → a < joined.atoms
  more_atoms a less = let atoms : joined.atoms ≡ j.atoms + m.fresh = is.atoms in omega (arith, less, atoms)

  pub old_rule : (rule : GroundRule) → Contains j.rules rule → Contains joined.rules rule
  old_rule rule has = subst (λ (rs : List GroundRule). Contains rs rule) (sym is.rules) (Contains-append_left j.rules m.rules rule has)

  pub rules_cases : (P : GroundRule → Type 0) → Any P joined.rules → Any P j.rules ⊎ Any P m.rules
  rules_cases P some = any_cases P j.rules m.rules (subst (Any P) is.rules some)

  pub old_any : (P : GroundRule → Type 0) → Any P j.rules → Any P joined.rules
  old_any P some = subst (Any P) (sym is.rules) (any_left P j.rules m.rules some)

  pub new_any : (P : GroundRule → Type 0) → Any P m.rules → Any P joined.rules
  new_any P some = subst (Any P) (sym is.rules) (any_right P j.rules m.rules some)

  -- the things of the old join are things of the new one
  pub thing_stays : (t : Thing) → IsThing j.atoms j.rules t → IsThing joined.atoms joined.rules t
  thing_stays (atom a) of = more_atoms a of
  thing_stays (body b) of = old_any (λ rule. IsThingOf rule (body b)) of
  thing_stays (tuple t) of = old_any (λ rule. IsThingOf rule (tuple t)) of
  thing_stays (aggregate g) of = old_any (λ rule. IsThingOf rule (aggregate g)) of

  module _ (formed : IsWellFormed j.atoms m) where
    pub rule_over : (rule : GroundRule) → Contains m.rules rule → IsRuleOver (j.atoms + m.fresh) rule
    rule_over rule has = All-contains (IsRuleOver (j.atoms + m.fresh)) m.rules rule formed.rules has

    within : (a : ℕ) → a < j.atoms + m.fresh → a < joined.atoms
    within a less = let atoms : joined.atoms ≡ j.atoms + m.fresh = is.atoms in omega (arith, less, atoms)

    atom_of : (atoms : List ℕ) → All (λ a. a < j.atoms + m.fresh) atoms → (t : Thing) → IsAtomOf atoms t → IsThing joined.atoms joined.rules t
    atom_of atoms each (atom a) has = within a (All-contains (λ b. b < j.atoms + m.fresh) atoms a each has)
    atom_of atoms each (body b) has = absurd has
    atom_of atoms each (tuple t) has = absurd has
    atom_of atoms each (aggregate g) has = absurd has

    new_atom : (t : Thing) → IsNewAtom m.first_new m.fresh t → IsThing joined.atoms joined.rules t
    new_atom (atom a) (least, less) =
        let first : m.first_new ≡ j.atoms = formed.first in
        let below : a < j.atoms + m.fresh = omega (arith, less, first) in
        within a below
    new_atom (body b) has = absurd has
    new_atom (tuple t) has = absurd has
    new_atom (aggregate g) has = absurd has

    of_head : (rule : GroundRule) → IsRuleOver (j.atoms + m.fresh) rule → (head : Option ℕ) → rule.head ≡ head → (t : Thing) → IsHeadThing head t → IsThing joined.atoms joined.rules t
    of_head rule over None at t has = absurd has
    of_head rule over (Some h) at t has =
        subst (λ (u : Thing). IsThing joined.atoms joined.rules u) (sym has) (within h (head_within (j.atoms + m.fresh) rule.kind rule.head h over.head at))

    of_rule : (t : Thing) (rule : GroundRule) → Contains m.rules rule → IsOfRule rule t → IsThing joined.atoms joined.rules t
    of_rule t rule has of =
        let over = rule_over rule has in
        elim of [
          | inl (inl is_body) ↦
              subst (λ (u : Thing). IsThing joined.atoms joined.rules u) (sym is_body)
              (new_any (λ r. IsThingOf r (body (plain_body rule))) (any_from (λ r. IsThingOf r (body (plain_body rule))) m.rules rule has (inl (sym (plain_is (j.atoms + m.fresh) rule over)))))
          | inl (inr (inl positive)) ↦ atom_of rule.pos over.pos t positive
          | inl (inr (inr negated)) ↦ atom_of rule.neg over.neg t negated
          | inr head ↦ of_head rule over rule.head refl t head
        ]

    from_module : (t : Thing) → IsFrom m t → IsThing joined.atoms joined.rules t
    from_module t from = elim from [
      | inl new ↦ new_atom t new
      | inr (inl some) ↦ of_rule t some.1 (member_of (λ rule. IsOfRule rule t) m.rules some) some.4
      | inr (inr head) ↦ atom_of m.heads formed.heads.within t head
    ]

    -- a body of the module is the plain body of one of its rules
    pub body_of_module : (b : Body) → Any (λ rule. IsThingOf rule (body b)) m.rules → (rule : GroundRule) × Contains m.rules rule × (plain_body rule ≡ b)
    body_of_module b some =
        let has = member_of (λ rule. IsThingOf rule (body b)) m.rules some in
        let over = rule_over some.1 has in
        elim some.4 [
          | inl same ↦ (some.1, has, plain_is (j.atoms + m.fresh) some.1 over ∙ same)
          | inr element ↦ absurd (no_element (j.atoms + m.fresh) some.1 over (λ g e. condition_of e ≡ b) element)
        ]

    pub no_tuple : (t : Tuple) → ¬ Any (λ rule. IsThingOf rule (tuple t)) m.rules
    no_tuple t some =
        no_element (j.atoms + m.fresh) some.1 (rule_over some.1 (member_of (λ rule. IsThingOf rule (tuple t)) m.rules some)) (λ g e. tuple_of g.elements e ≡ t) some.4

    pub no_aggregates : (g : GroundAgg) → ¬ Any (λ rule. IsThingOf rule (aggregate g)) m.rules
    no_aggregates g some =
        no_aggregate (j.atoms + m.fresh) some.1 (rule_over some.1 (member_of (λ rule. IsThingOf rule (aggregate g)) m.rules some)) (λ other. other ≡ g) some.4

    module _ (old new : Numbering) (numbered : List NumberedRule) (d : Declared old new m numbered) (are : AreThings j old.things) where
      -- the number of a rule's body
      pub body_at : (rule : GroundRule) → Contains m.rules rule → (r : NumberedRule) × Contains numbered r × IsNumbered new.things rule r
      body_at rule has =
          let some = All-contains (λ (one : GroundRule). Any (IsNumbered new.things one) numbered) m.rules rule d.numbered.all has in
          (some.1, member_of (IsNumbered new.things rule) numbered some, some.4)

      declared_body : (b : Body) → Any (λ rule. IsThingOf rule (body b)) m.rules → Contains new.things (body b)
      declared_body b some =
          let (rule, has, same) = body_of_module b some in
          let (r, among, n) = body_at rule has in
          subst (λ (c : Body). Contains new.things (body c)) same (some_at new.things r.body (body (plain_body rule)) n.body_at)

      from_old : (t : Thing) → IsThing j.atoms j.rules t → Contains new.things t
      from_old t of = keeps_member old new (IsFrom m) d.declares t ((are.exactly t).1 of)

      pub declared : (t : Thing) → IsThing joined.atoms joined.rules t → Contains new.things t
      declared (atom a) of = elim (cases_lt a j.atoms) [
        | inl less ↦ from_old (atom a) less
        | inr least ↦
            let first : m.first_new ≡ j.atoms = formed.first in
            let atoms : joined.atoms ≡ j.atoms + m.fresh = is.atoms in
            d.atoms a (omega (arith, least, first)) (omega (arith, of, first, atoms))
      ]
      declared (body b) of = elim (rules_cases (λ rule. IsThingOf rule (body b)) of) [
        | inl before ↦ from_old (body b) before
        | inr new_one ↦ declared_body b new_one
      ]
      declared (tuple t) of = elim (rules_cases (λ rule. IsThingOf rule (tuple t)) of) [
        | inl before ↦ from_old (tuple t) before
        | inr new_one ↦ absurd (no_tuple t new_one)
      ]
      declared (aggregate g) of = elim (rules_cases (λ rule. IsThingOf rule (aggregate g)) of) [
        | inl before ↦ from_old (aggregate g) before
        | inr new_one ↦ absurd (no_aggregates g new_one)
      ]

      its_thing : (t : Thing) → Contains new.things t → IsThing joined.atoms joined.rules t
      its_thing t has = elim (Contains-append_cases old.things d.declares.more t (subst (λ (ts : List Thing). Contains ts t) d.declares.things has)) [
        | inl before ↦ thing_stays t ((are.exactly t).0 before)
        | inr more ↦ from_module t (All-contains (IsFrom m) d.declares.more t d.declares.each more)
      ]

      -- They are the things of the new join.
      pub are_things : AreThings joined new.things
      are_things = record {
        exactly = λ t. (its_thing t, declared t);
        once = d.are.once;
        before = d.are.before;
      }
