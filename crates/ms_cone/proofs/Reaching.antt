-- The members of a whole search, with the numbers of the components that its edges join, are a cone.
use Rattle.std.proofs.Common.{◌≡◌, ◌<◌, ◌⊎◌, ℕ, zero, suc, List, ◌++◌, Some, option_map, Contains, slice_get, get_or, inl, inr, sym, ap, subst, ◌∙◌, length}
use Rattle.std.specs.Prelude.{◌↔◌}
use Rattle.std.proofs.lemmas.Option.{same_Some, slice_get_within, slice_get-get_or}
use Rattle.std.proofs.lemmas.List.{get_or_default}
use Rattle.ms_graph.specs.declared.edge.Edge.{Edge}
use Rattle.ms_graph.specs.Components.{IsEdge, Leads as EdgeLeads, HasEndsBelow, IsNumbering, Walk as EdgeWalk, Reaches as EdgeReaches, ReachEachOther}
use Rattle.ms_join.specs.declared.ground_rule.GroundRule.{GroundRule}
use Rattle.ms_join.specs.Dependencies.{Depends, AreTogether}
use Rattle.ms_cone.specs.Dependencies.{Linked, Keeps}
use Rattle.ms_cone.specs.Search.{Found, HasEdge, IsWhole, AreNumbered, led_by}
use Rattle.ms_cone.specs.Cones.{Numbered, IsCone}
use Rattle.ms_cone.proofs.Members.{at_contains, contains_at, same_place, place_of, member_of}
use Rattle.ms_cone.proofs.Paths.{Path, Leads, LeadToEachOther, leads_self, leads_more, together_along, together_against}
use Rattle.ms_cone.proofs.Walks.{depends_cases, depends_left, depends_right}

edge_is : (e : Edge) (a b : ℕ) → e.from ≡ a → e.to ≡ b → e ≡ record { from = a; to = b }
edge_is e a b from to = ap (λ (x : ℕ). record { from = x; to = e.to }) from ∙ ap (λ (y : ℕ). record { from = a; to = y }) to

module _ (Is : ℕ → ℕ → Type 0) (starts : List ℕ) (s : Found) where
  edge_to : (c k b : ℕ) → IsWhole Is starts s → slice_get s.members k ≡ Some b → Is c b → HasEdge s c b
  edge_to c k b whole at is = whole.explored.whole k b c (subst (λ n. k < n) (sym whole.each) (slice_get_within s.members k b at)) at is

  -- what leads to a member is one
  is_member : (steps a b : ℕ) → IsWhole Is starts s → Contains s.members b → Path Is steps a b → Contains s.members a
  is_member zero a b whole here path = subst (λ x. Contains s.members x) (sym path) here
  is_member (suc steps) a b whole here path =
      let edge = edge_to path.0 here.0 b whole (at_contains s.members b here) path.2 in
      is_member steps a path.0 whole (contains_at s.members edge.from path.0 edge.start) path.1

  -- a walk along the edges is a path
  path_by_edges : (steps i k a b : ℕ) → IsWhole Is starts s → slice_get s.members i ≡ Some a → slice_get s.members k ≡ Some b → EdgeWalk s.edges steps i k → Leads Is a b
  path_by_edges zero i k a b whole at_i at_k walk =
      subst (λ x. Leads Is a x) (same_Some a b (sym at_i ∙ ap (λ n. slice_get s.members n) walk ∙ at_k)) (leads_self Is a)
  path_by_edges (suc steps) i k a b whole at_i at_k walk =
      let j = walk.0 in
      let last = walk.2 in
      let e : Edge = record { from = j; to = k } in
      let leads : EdgeLeads (get_or s.edges last.place e) j k = last.leads e in
      let is : get_or s.edges last.place e ≡ e = edge_is (get_or s.edges last.place e) j k leads.start leads.end in
      let ends : HasEndsBelow (length s.members) (get_or s.edges last.place e) = whole.found.graph last.place e last.within in
      let inside : j < length s.members = subst (λ (x : ℕ). x < length s.members) leads.start ends.start in
      let c = get_or s.members j 0 in
      let at_j : slice_get s.members j ≡ Some c = slice_get-get_or s.members j 0 inside in
      let edge : HasEdge s c b = record { from = j; to = k; start = at_j; end = at_k; edge = (last.place, last.within, is) } in
      leads_more Is a c b (path_by_edges steps i j a c whole at_i at_j walk.1) (whole.explored.sound c b edge)

  -- a path to a member is a walk along the edges
  edges_by_path : (steps i k a b : ℕ) → IsWhole Is starts s → slice_get s.members i ≡ Some a → slice_get s.members k ≡ Some b → Path Is steps a b → EdgeReaches s.edges i k
  edges_by_path zero i k a b whole at_i at_k path =
      record { steps = zero; walk = same_place s.members i k b whole.found.once (at_i ∙ ap Some path) at_k }
  edges_by_path (suc steps) i k a b whole at_i at_k path =
      let c = path.0 in
      let edge = edge_to c k b whole at_k path.2 in
      let before = edges_by_path steps i edge.from a c whole at_i edge.start path.1 in
      let to_k : edge.to ≡ k = same_place s.members edge.to k b whole.found.once edge.end at_k in
      let e : Edge = record { from = edge.from; to = edge.to } in
      let stored = edge.edge in
      let last : IsEdge s.edges edge.from k = record {
        place = stored.0;
        within = stored.1;
        leads = λ d. let is : get_or s.edges stored.0 d ≡ e = get_or_default s.edges stored.0 d e stored.1 ∙ stored.2 in
            record { start = ap (λ (x : Edge). x.from) is; end = ap (λ (x : Edge). x.to) is ∙ to_k };
      } in
      record { steps = suc before.steps; walk = (edge.from, before.walk, last) }

  found_cone : (rules : List GroundRule) (numbers : List ℕ) → ((a b : ℕ) → LeadToEachOther Is a b ↔ AreTogether rules a b) → IsWhole Is starts s → IsNumbering (length s.members) s.edges numbers → IsCone rules starts (record { members = s.members; numbers = numbers })
  found_cone rules numbers same whole numbering =
      let cone : Numbered = record { members = s.members; numbers = numbers } in
      record {
        starts_are = whole.explored.begun;
        components = λ a b n is_a.
            let at_a = member_of cone a n is_a in
            let i = at_a.place in (
              λ is_b. let at_b = member_of cone b n is_b in
                  let k = at_b.place in
                  let each : ReachEachOther s.edges i k = (numbering.components i k at_a.within at_b.within).0 (at_a.number ∙ sym at_b.number) in
                  (same a b).0 (record {
                    forth = path_by_edges each.forth.steps i k a b whole at_a.member at_b.member each.forth.walk;
                    back = path_by_edges each.back.steps k i b a whole at_b.member at_a.member each.back.walk;
                  }),
              λ together. let lead = (same a b).1 together in
                  let there = is_member lead.back.steps b a whole (contains_at s.members i a at_a.member) lead.back.path in
                  let k = there.0 in
                  let at_k = at_contains s.members b there in
                  let each : ReachEachOther s.edges i k = record {
                    forth = edges_by_path lead.forth.steps i k a b whole at_a.member at_k lead.forth.path;
                    back = edges_by_path lead.back.steps k i b a whole at_k at_a.member lead.back.path;
                  } in
                  let equal : get_or numbers i 0 ≡ get_or numbers k 0 = (numbering.components i k at_a.within there.1).1 each in
                  ap (option_map (λ (j : ℕ). get_or numbers j 0)) (place_of s.members k b whole.found.once at_k) ∙ ap Some (sym equal ∙ at_a.number),
            );
      }

-- the links of both dependencies are those of both lists of rules
needs_same : (old new : Linked) (old_rules new_rules : List GroundRule) → Keeps old old_rules → Keeps new new_rules → (a b : ℕ) → led_by old.needs new.needs a b ↔ Depends (old_rules ++ new_rules) b a
needs_same old new old_rules new_rules keeps_old keeps_new a b = (
  λ either. elim either [
    | inl here ↦ depends_left old_rules new_rules b a ((keeps_old.needs b a).0 here)
    | inr here ↦ depends_right old_rules new_rules b a ((keeps_new.needs b a).0 here)
  ],
  λ depends. elim (depends_cases old_rules new_rules b a depends) [
    | inl by_old ↦ inl ((keeps_old.needs b a).1 by_old)
    | inr by_new ↦ inr ((keeps_new.needs b a).1 by_new)
  ],
)

uses_same : (old new : Linked) (old_rules new_rules : List GroundRule) → Keeps old old_rules → Keeps new new_rules → (a b : ℕ) → led_by old.uses new.uses a b ↔ Depends (old_rules ++ new_rules) a b
uses_same old new old_rules new_rules keeps_old keeps_new a b = (
  λ either. elim either [
    | inl here ↦ depends_left old_rules new_rules a b ((keeps_old.uses a b).0 here)
    | inr here ↦ depends_right old_rules new_rules a b ((keeps_new.uses a b).0 here)
  ],
  λ depends. elim (depends_cases old_rules new_rules a b depends) [
    | inl by_old ↦ inl ((keeps_old.uses a b).1 by_old)
    | inr by_new ↦ inr ((keeps_new.uses a b).1 by_new)
  ],
)

-- a whole search in either direction
pub is_cone : (old new : Linked) (old_rules new_rules : List GroundRule) (starts : List ℕ) (s : Found) (cone : Numbered) → Keeps old old_rules → Keeps new new_rules
    → IsWhole (led_by old.needs new.needs) starts s ⊎ IsWhole (led_by old.uses new.uses) starts s → AreNumbered s cone → IsCone (old_rules ++ new_rules) starts cone
is_cone old new old_rules new_rules starts s cone keeps_old keeps_new either numbered =
    let rules = old_rules ++ new_rules in
    subst (λ (ms : List ℕ). IsCone rules starts (record { members = ms; numbers = cone.numbers })) (sym numbered.members) (elim either [
      | inl whole ↦ found_cone (led_by old.needs new.needs) starts s rules cone.numbers
          (together_against (led_by old.needs new.needs) rules (needs_same old new old_rules new_rules keeps_old keeps_new)) whole numbered.numbers
      | inr whole ↦ found_cone (led_by old.uses new.uses) starts s rules cone.numbers
          (together_along (led_by old.uses new.uses) rules (uses_same old new old_rules new_rules keeps_old keeps_new)) whole numbered.numbers
    ])
