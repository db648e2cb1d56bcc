-- Links that come to others.
use Rattle.std.proofs.Common.{◌≡◌, ◌<◌, ◌⊎◌, ℕ, List, [], ◌∷◌, ◌++◌, Some, None, All, Any, Contains, get_or, inl, inr, refl, sym, ap, ◌∙◌}
use Rattle.std.specs.Prelude.{length}
use Rattle.std.proofs.lemmas.List.Quantifiers.{Any-push}
use Rattle.std.proofs.lemmas.List.{get_or_default}
use Rattle.std.proofs.lemmas.Option.{none-some, same_Some}
use Rattle.ms_join.specs.declared.ground_rule.GroundRule.{GroundRule}
use Rattle.ms_join.specs.AnswerSets.{IsRuleOver}
use Rattle.ms_join.specs.Dependencies.{Depends}
use Rattle.ms_cone.specs.declared.links.Link.{Link}
use Rattle.ms_cone.specs.Links.{Leads, IsLinked, AddsLinks}
use Rattle.ms_cone.specs.Dependencies.{Linked, Keeps, Adds, IsBelow, NeedsInSigned}
use Rattle.ms_cone.proofs.Elements.{any_left, any_push_cases, any_from_contains, contains_from_any}
use Rattle.ms_cone.proofs.Walks.{DependsBy, by_rule, rule_of, depends_below, depends_left}

-- one link comes to the others
pub adds_link : (links : List Link) (l : Link) → AddsLinks links (links ++ l ∷ []) (λ a b. (a ≡ l.from) × (b ≡ l.to))
adds_link links l = record {
  kept = λ a b. any_left (Leads a b) links (l ∷ []);
  each = λ a b is. Any-push (Leads a b) links l (record { from = sym is.0; to = sym is.1 });
  only = λ a b is. elim (any_push_cases (Leads a b) links l is) [
    | inl there ↦ inl there
    | inr last ↦ inr (sym last.from, sym last.to)
  ];
}

links_then : (old mid new : List Link) (P Q R : ℕ → ℕ → Type 0) → AddsLinks old mid P → AddsLinks mid new Q
    → ((a b : ℕ) → P a b → R a b) → ((a b : ℕ) → Q a b → R a b) → ((a b : ℕ) → R a b → P a b ⊎ Q a b) → AddsLinks old new R
links_then old mid new P Q R first then from_p from_q cases = record {
  kept = λ a b is. then.kept a b (first.kept a b is);
  each = λ a b is. elim (cases a b is) [
    | inl p ↦ then.kept a b (first.each a b p)
    | inr q ↦ then.each a b q
  ];
  only = λ a b is. elim (then.only a b is) [
    | inl there ↦ elim (first.only a b there) [
      | inl before ↦ inl before
      | inr p ↦ inr (from_p a b p)
    ]
    | inr q ↦ inr (from_q a b q)
  ];
}

-- nothing comes
pub adds_none : (d : Linked) (Is : ℕ → ℕ → Type 0) → ((a b : ℕ) → ¬ Is a b) → Adds d d Is
adds_none d Is none = record {
  needs = record { kept = λ a b is. is; each = λ a b is. absurd (none a b is); only = λ a b is. inl is };
  uses = record { kept = λ a b is. is; each = λ b a is. absurd (none a b is); only = λ a b is. inl is };
}

-- a link of each direction
pub adds_one : (old new : Linked) (head atom : ℕ) → AddsLinks old.needs new.needs (λ a b. (a ≡ head) × (b ≡ atom)) → AddsLinks old.uses new.uses (λ a b. (a ≡ atom) × (b ≡ head)) → Adds old new (λ a b. (a ≡ head) × (b ≡ atom))
adds_one old new head atom needs uses = record {
  needs = needs;
  uses = record {
    kept = uses.kept;
    each = λ b a is. uses.each b a (is.1, is.0);
    only = λ b a is. elim (uses.only b a is) [ inl there ↦ inl there | inr this ↦ inr (this.1, this.0) ];
  };
}

-- first these come and then those
pub adds_then : (old mid new : Linked) (P Q R : ℕ → ℕ → Type 0) → Adds old mid P → Adds mid new Q
    → ((a b : ℕ) → P a b → R a b) → ((a b : ℕ) → Q a b → R a b) → ((a b : ℕ) → R a b → P a b ⊎ Q a b) → Adds old new R
adds_then old mid new P Q R first then from_p from_q cases = record {
  needs = links_then old.needs mid.needs new.needs P Q R first.needs then.needs from_p from_q cases;
  uses = links_then old.uses mid.uses new.uses (λ b a. P a b) (λ b a. Q a b) (λ b a. R a b) first.uses then.uses (λ b a. from_p a b) (λ b a. from_q a b) (λ b a. cases a b);
}

-- the atoms of one more element
pub adds_push : {X : Type 0} (P : ℕ → X → Type 0) (old mid new : Linked) (head : ℕ) (xs : List X) (x : X) → Adds old mid (λ a b. (a ≡ head) × Any (P b) xs) → Adds mid new (λ a b. (a ≡ head) × P b x)
    → Adds old new (λ a b. (a ≡ head) × Any (P b) (xs ++ x ∷ []))
adds_push P old mid new head xs x first then =
    adds_then old mid new (λ a b. (a ≡ head) × Any (P b) xs) (λ a b. (a ≡ head) × P b x) (λ a b. (a ≡ head) × Any (P b) (xs ++ x ∷ [])) first then
    (λ a b is. (is.0, any_left (P b) xs (x ∷ []) is.1))
    (λ a b is. (is.0, Any-push (P b) xs x is.1))
    (λ a b is. elim (any_push_cases (P b) xs x is.1) [
      | inl there ↦ inl (is.0, there)
      | inr last ↦ inr (is.0, last)
    ])

pub adds_same : (old new : Linked) (P Q : ℕ → ℕ → Type 0) → ((a b : ℕ) → P a b → Q a b) → ((a b : ℕ) → Q a b → P a b) → Adds old new P → Adds old new Q
adds_same old new P Q forth back adds = record {
  needs = record {
    kept = adds.needs.kept;
    each = λ a b is. adds.needs.each a b (back a b is);
    only = λ a b is. elim (adds.needs.only a b is) [ inl there ↦ inl there | inr p ↦ inr (forth a b p) ];
  };
  uses = record {
    kept = adds.uses.kept;
    each = λ b a is. adds.uses.each b a (back a b is);
    only = λ b a is. elim (adds.uses.only b a is) [ inl there ↦ inl there | inr p ↦ inr (forth a b p) ];
  };
}

-- the atoms of a list, as elements that are equal to one
pub adds_atoms : (old new : Linked) (head : ℕ) (atoms : List ℕ) → Adds old new (λ a b. (a ≡ head) × Any (λ x. b ≡ x) atoms) → Adds old new (λ a b. (a ≡ head) × Contains atoms b)
adds_atoms old new head atoms = adds_same old new (λ a b. (a ≡ head) × Any (λ x. b ≡ x) atoms) (λ a b. (a ≡ head) × Contains atoms b)
    (λ a b is. (is.0, contains_from_any atoms b is.1))
    (λ a b is. (is.0, any_from_contains atoms b is.1))

pub atoms_added : (old new : Linked) (head : ℕ) (atoms : List ℕ) → Adds old new (λ a b. (a ≡ head) × Contains atoms b) → Adds old new (λ a b. (a ≡ head) × Any (λ x. b ≡ x) atoms)
atoms_added old new head atoms = adds_same old new (λ a b. (a ≡ head) × Contains atoms b) (λ a b. (a ≡ head) × Any (λ x. b ≡ x) atoms)
    (λ a b is. (is.0, any_from_contains atoms b is.1))
    (λ a b is. (is.0, contains_from_any atoms b is.1))

-- the atoms of a rule
pub adds_rule : (old mid new : Linked) (rule : GroundRule) (head : ℕ) → rule.head ≡ Some head → Adds old mid (λ a b. (a ≡ head) × Contains rule.pos b) → Adds mid new (λ a b. (a ≡ head) × Any (NeedsInSigned b) rule.aggs)
    → Adds old new (λ a b. DependsBy a b rule)
adds_rule old mid new rule head at first then =
    let same : (a : ℕ) → rule.head ≡ Some a → a ≡ head = λ a is. same_Some a head (sym is ∙ at) in
    adds_then old mid new (λ a b. (a ≡ head) × Contains rule.pos b) (λ a b. (a ≡ head) × Any (NeedsInSigned b) rule.aggs) (λ a b. DependsBy a b rule) first then
    (λ a b is. (at ∙ ap Some (sym is.0), inl is.1))
    (λ a b is. (at ∙ ap Some (sym is.0), inr is.1))
    (λ a b is. elim is.1 [
      | inl pos ↦ inl (same a is.0, pos)
      | inr inside ↦ inr (same a is.0, inside)
    ])

-- a rule without a head
pub adds_headless : (d : Linked) (rule : GroundRule) → rule.head ≡ None → Adds d d (λ a b. DependsBy a b rule)
adds_headless d rule none = adds_none d (λ a b. DependsBy a b rule) (λ a b is. none-some a (sym none ∙ is.0))

-- the dependencies of one more rule come to the others
pub keeps_more : (old new : Linked) (rules : List GroundRule) (rule : GroundRule) → Keeps old rules → Adds old new (λ a b. DependsBy a b rule) → Keeps new (rules ++ rule ∷ [])
keeps_more old new rules rule keeps adds =
    let all = rules ++ rule ∷ [] in
    let last : (a b : ℕ) → DependsBy a b rule → Depends all a b = λ a b is. by_rule all a b (Any-push (DependsBy a b) rules rule is) in
    let cases : (a b : ℕ) → Depends all a b → Depends rules a b ⊎ DependsBy a b rule = λ a b is. elim (any_push_cases (DependsBy a b) rules rule (rule_of all a b is)) [
      | inl there ↦ inl (by_rule rules a b there)
      | inr here ↦ inr here
    ] in
    record {
      needs = λ a b. (
        λ is. elim (adds.needs.only a b is) [
          | inl before ↦ depends_left rules (rule ∷ []) a b ((keeps.needs a b).0 before)
          | inr here ↦ last a b here
        ],
        λ is. elim (cases a b is) [
          | inl before ↦ adds.needs.kept a b ((keeps.needs a b).1 before)
          | inr here ↦ adds.needs.each a b here
        ],
      );
      uses = λ a b. (
        λ is. elim (adds.uses.only b a is) [
          | inl before ↦ depends_left rules (rule ∷ []) a b ((keeps.uses a b).0 before)
          | inr here ↦ last a b here
        ],
        λ is. elim (cases a b is) [
          | inl before ↦ adds.uses.kept b a ((keeps.uses a b).1 before)
          | inr here ↦ adds.uses.each b a here
        ],
      );
    }

linked_at : (links : List Link) (k : ℕ) (d : Link) → k < length links → IsLinked links (get_or links k d).from (get_or links k d).to
linked_at links k d within = let l = get_or links k d in (k, l, within, get_or_default links k l d within, record { from = refl; to = refl })

-- the links of rules lead to atoms below their number
pub keeps_below : (atoms : ℕ) (d : Linked) (rules : List GroundRule) → Keeps d rules → All (IsRuleOver atoms) rules → IsBelow atoms d
keeps_below atoms d rules keeps over = record {
  needs = λ k e within. let l = get_or d.needs k e in (depends_below atoms rules l.from l.to over ((keeps.needs l.from l.to).0 (linked_at d.needs k e within))).atom;
  uses = λ k e within. let l = get_or d.uses k e in (depends_below atoms rules l.to l.from over ((keeps.uses l.to l.from).0 (linked_at d.uses k e within))).head;
}
