-- Rules by the places of their atoms among the members, one rule after the other.
use Rattle.std.proofs.Common.{◌≡◌, ◌∙◌, ◌⊎◌, ◌+◌, ◌<◌, ℕ, List, [], ◌∷◌, ◌++◌, Some, length, take, get_or, refl, sym, ap, subst, inl, inr, arith, length-append}
use Rattle.std.specs.Prelude.{◌↔◌, slice_get, slice_index}
use Rattle.std.specs.List.{All, Any, Contains}
use Rattle.std.specs.List.Sorted.{IsStrictlyIncreasing}
use Rattle.std.proofs.lemmas.List.Elements.{All-more, All-nil, All-push, All-weaker, Contains-append_left, Contains-push, Contains-push_cases}
use Rattle.std.proofs.lemmas.Option.{slice_get_within}
use Rattle.ms_complete.proofs.Lists.{any_left, any_right, member_none, next_one, some_at, some_once}
use Rattle.ms_join.specs.declared.ground_rule.GroundRule.{GroundRule}
use Rattle.ms_join.specs.Things.{Thing, body_of}
use Rattle.ms_join.specs.Things.Thing.{atom, body}
use Rattle.ms_unfound.specs.declared.members.Members.{Members}
use Rattle.ms_unfound.specs.declared.part.Support.{Support}
use Rattle.ms_unfound.specs.Taking.{AreSupports, AreVars, IsHeadAt, IsInner, IsInnerAt, IsSupportBy}
use Rattle.ms_unfound.proofs.MemberLaws.{at_push_cases, different, more_last, more_left}

-- ---- the places of inner atoms

pub inner_start : (m : Members) (number : ℕ) (atoms : List ℕ) (i : ℕ) → Contains [] i ↔ IsInner m number (take 0 atoms) i
inner_start m number atoms i = (λ has. absurd (member_none i has), λ inner. absurd (member_none inner.atom inner.among))

module _ (m : Members) (number : ℕ) (atoms : List ℕ) (i a : ℕ) (within : i < length atoms) (is : a ≡ get_or atoms i a) (places : List ℕ) (before : (k : ℕ) → Contains places k ↔ IsInner m number (take i atoms) k) where
  next_atoms : take (i + 1) atoms ≡ take i atoms ++ a ∷ []
  next_atoms = next_one atoms i a within is

  later : (k : ℕ) → IsInner m number (take i atoms) k → IsInner m number (take (i + 1) atoms) k
  later k inner = record {
    atom = inner.atom;
    among = subst (λ (bs : List ℕ). Contains bs inner.atom) (sym next_atoms) (Contains-append_left (take i atoms) (a ∷ []) inner.atom inner.among);
    at = inner.at;
    numbered = inner.numbered;
  }

  cases : (k : ℕ) → IsInner m number (take (i + 1) atoms) k → IsInner m number (take i atoms) k ⊎ IsInnerAt m number a k
  cases k inner = elim (Contains-push_cases (take i atoms) a inner.atom (subst (λ (bs : List ℕ). Contains bs inner.atom) next_atoms inner.among)) [
    | inl earlier ↦ inl (record { atom = inner.atom; among = earlier; at = inner.at; numbered = inner.numbered })
    | inr same ↦ inr (record { at = inner.at ∙ ap Some (sym same); numbered = inner.numbered })
  ]

  pub inner_keep : ((k : ℕ) → ¬ IsInnerAt m number a k) → (k : ℕ) → Contains places k ↔ IsInner m number (take (i + 1) atoms) k
  inner_keep none k = (
    λ has. later k ((before k).0 has),
    λ inner. elim (cases k inner) [ inl earlier ↦ (before k).1 earlier | inr last ↦ absurd (none k last) ],
  )

  pub inner_more : (place : ℕ) → IsStrictlyIncreasing m.atoms → IsInnerAt m number a place → (k : ℕ) → Contains (places ++ place ∷ []) k ↔ IsInner m number (take (i + 1) atoms) k
  inner_more place rising last k = (
    λ has. elim (Contains-push_cases places place k has) [
      | inl earlier ↦ later k ((before k).0 earlier)
      | inr same ↦ record {
        atom = a;
        among = subst (λ (bs : List ℕ). Contains bs a) (sym next_atoms) (Contains-push (take i atoms) a);
        at = subst (λ p. slice_get m.atoms p ≡ Some a) same last.at;
        numbered = subst (λ p. slice_index m.numbers p ≡ number) same last.numbered;
      }
    ],
    λ inner. elim (cases k inner) [
      | inl earlier ↦ Contains-append_left places (place ∷ []) k ((before k).1 earlier)
      | inr here ↦
          let same : place ≡ k = some_once m.atoms (different m.atoms rising) place k a last.at here.at in
          subst (Contains (places ++ place ∷ [])) same (Contains-push places place)
    ],
  )

-- ---- the rules

pub support_made : (things : List Thing) (m : Members) (rule : GroundRule) (place b : ℕ) (inner numbers pos : List ℕ) → IsHeadAt m rule place → slice_get things b ≡ Some (body (body_of rule)) → numbers ≡ m.numbers → pos ≡ rule.pos
    → ((i : ℕ) → Contains inner i ↔ IsInner m (get_or numbers place 0) pos i) → IsSupportBy things m rule (record { head = place; body = b; inner = inner })
support_made things m rule place b inner numbers pos head at same_numbers same_pos are = record {
  head = head.0;
  is_head = head.1;
  at = head.2;
  body_at = at;
  inner = subst (λ (ps : List ℕ). (i : ℕ) → Contains inner i ↔ IsInner m (get_or m.numbers place 0) ps i) same_pos
      (subst (λ (ns : List ℕ). (i : ℕ) → Contains inner i ↔ IsInner m (get_or ns place 0) pos i) same_numbers are);
}

module _ (things : List Thing) (m : Members) (rules : List GroundRule) where
  abbrev IsRuleOf : Support → GroundRule → Type 0
  IsRuleOf s rule = IsSupportBy things m rule s

  abbrev IsKept : List Support → GroundRule → Type 0
  IsKept supports rule = (h : ℕ) → rule.head ≡ Some h → Contains m.atoms h → Any (IsSupportBy things m rule) supports

  pub supports_start : AreSupports things m (take 0 rules) []
  supports_start = record { each = All-nil (λ s. Any (IsRuleOf s) (take 0 rules)); all = All-nil (IsKept []) }

  module _ (i : ℕ) (rule : GroundRule) (within : i < length rules) (is : rule ≡ get_or rules i rule) (supports : List Support) (before : AreSupports things m (take i rules) supports) where
    earlier_rules : All (λ s. Any (IsRuleOf s) (take (i + 1) rules)) supports
    earlier_rules = All-weaker (λ s. Any (IsRuleOf s) (take i rules)) (λ s. Any (IsRuleOf s) (take (i + 1) rules)) (λ s any. more_left (IsRuleOf s) rules i rule within is any) supports before.each

    pub supports_keep : ((h : ℕ) → rule.head ≡ Some h → ¬ Contains m.atoms h) → AreSupports things m (take (i + 1) rules) supports
    supports_keep none = record {
      each = earlier_rules;
      all = All-more (IsKept supports) rules i rule within before.all (subst (IsKept supports) is (λ h at has. absurd (none h at has)));
    }

    pub supports_more : (s : Support) → IsSupportBy things m rule s → AreSupports things m (take (i + 1) rules) (supports ++ s ∷ [])
    supports_more s by = record {
      each = All-push (λ t. Any (IsRuleOf t) (take (i + 1) rules)) supports s earlier_rules (more_last (IsRuleOf s) rules i rule within is by);
      all = All-more (IsKept (supports ++ s ∷ [])) rules i rule within
          (All-weaker (IsKept supports) (IsKept (supports ++ s ∷ [])) (λ r kept h at has. any_left (IsSupportBy things m r) supports (s ∷ []) (kept h at has)) (take i rules) before.all)
          (subst (IsKept (supports ++ s ∷ [])) is (λ h at has. any_right (IsSupportBy things m rule) supports (s ∷ []) (0, s, omega arith, refl, by)));
    }

-- ---- the variables of atoms

pub vars_start : (things : List Thing) (atoms : List ℕ) → AreVars things (take 0 atoms) []
vars_start things atoms = record { len = refl; each = λ i var a at there. absurd (member_none var (some_at [] i var at)) }

pub vars_more : (things : List Thing) (atoms vars : List ℕ) (i a var : ℕ) → i < length atoms → a ≡ get_or atoms i a → AreVars things (take i atoms) vars → slice_get things var ≡ Some (atom a) → AreVars things (take (i + 1) atoms) (vars ++ var ∷ [])
vars_more things atoms vars i a var within is before at =
    let next : take (i + 1) atoms ≡ take i atoms ++ a ∷ [] = next_one atoms i a within is in
    let long : length (take (i + 1) atoms) ≡ length (take i atoms) + 1 = ap length next ∙ length-append (take i atoms) (a ∷ []) in
    record {
      len = omega (arith, length-append vars (var ∷ []), long, before.len);
      each = λ k v b at_v at_b.
          elim (at_push_cases vars var k v at_v) [
            | inl early ↦ elim (at_push_cases (take i atoms) a k b (subst (λ (bs : List ℕ). slice_get bs k ≡ Some b) next at_b)) [
              | inl before_b ↦ before.each k v b early before_b
              | inr last_b ↦ absurd (let less = slice_get_within vars k v early in let end = last_b.0 in omega (arith, less, end, before.len))
            ]
            | inr last ↦ elim (at_push_cases (take i atoms) a k b (subst (λ (bs : List ℕ). slice_get bs k ≡ Some b) next at_b)) [
              | inl before_b ↦ absurd (let less = slice_get_within (take i atoms) k b before_b in let end = last.0 in omega (arith, less, end, before.len))
              | inr last_b ↦ subst (λ u. slice_get things u ≡ Some (atom b)) (sym last.1) (at ∙ ap (λ c. Some (atom c)) (sym last_b.1))
            ]
          ];
    }
