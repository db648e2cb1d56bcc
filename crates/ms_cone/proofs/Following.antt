-- The atoms to which a member leads are found.
use Rattle.std.proofs.Common.{◌≡◌, ◌<◌, ◌≤◌, ◌-◌, ◌⊎◌, ℕ, List, [], ◌∷◌, ◌++◌, Some, Contains, slice_get, get_or, inl, inr, refl, sym, ap, subst, ◌∙◌, length, arith}
use Rattle.std.proofs.lemmas.Bool.{cases_lt}
use Rattle.std.proofs.lemmas.List.{get_or_default}
use Rattle.std.proofs.lemmas.Option.{same_Some}
use Rattle.std.proofs.lemmas.List.Elements.{All-contains, Contains-push, Contains-push_cases, Contains-append_left}
use Rattle.ms_graph.specs.declared.edge.Edge.{Edge}
use Rattle.ms_graph.specs.Components.{HasEndsBelow}
use Rattle.ms_cone.specs.declared.links.Link.{Link}
use Rattle.ms_cone.specs.Links.{Leads, IsLinked}
use Rattle.ms_cone.specs.Chains.{IsLast, IsLinkedFrom}
use Rattle.ms_cone.specs.Search.{Found, Grows, Enters, Follows}
use Rattle.ms_cone.proofs.Entering.{grows_longer}

old_place : (old new : List ℕ) (Is : ℕ → Type 0) (i a : ℕ) → Grows old new Is → i < length old → slice_get new i ≡ Some a → slice_get old i ≡ Some a
old_place old new Is i a grows within at = elim (grows.only i a at) [
  | inl there ↦ there
  | inr after ↦ absurd (let le = after.1 in omega (arith, le, within))
]

-- an atom comes with its edge to a member
pub follows_one : (old mid : Found) (atom place from b : ℕ) → Enters old mid atom from → slice_get old.members place ≡ Some b → Follows old (record mid { edges = mid.edges ++ record { from = from; to = place } ∷ [] }) b (λ a. a ≡ atom)
follows_one old mid atom place from b enters at =
    let last : Edge = record { from = from; to = place } in
    let new : Found = record mid { edges = mid.edges ++ last ∷ [] } in
    record {
      atoms = enters.atoms;
      visited = enters.visited;
      members = enters.members;
      kept = λ x y edge. record {
        from = edge.from;
        to = edge.to;
        start = enters.members.kept edge.from x edge.start;
        end = enters.members.kept edge.to y edge.end;
        edge = Contains-append_left mid.edges (last ∷ []) (record { from = edge.from; to = edge.to }) (subst (λ (edges : List Edge). Contains edges (record { from = edge.from; to = edge.to })) (sym enters.edges) edge.edge);
      };
      each = λ a is. record {
        from = from;
        to = place;
        start = enters.at ∙ ap Some (sym is);
        end = enters.members.kept place b at;
        edge = Contains-push mid.edges last;
      };
      only = λ x y edge. elim (Contains-push_cases mid.edges last (record { from = edge.from; to = edge.to }) edge.edge) [
        | inl before ↦ let ends : HasEndsBelow (length old.members) (record { from = edge.from; to = edge.to }) = All-contains (HasEndsBelow (length old.members)) mid.edges (record { from = edge.from; to = edge.to }) enters.graph before in
            inl (record {
              from = edge.from;
              to = edge.to;
              start = old_place old.members mid.members (λ z. z ≡ atom) edge.from x enters.members ends.start edge.start;
              end = old_place old.members mid.members (λ z. z ≡ atom) edge.to y enters.members ends.end edge.end;
              edge = subst (λ (edges : List Edge). Contains edges (record { from = edge.from; to = edge.to })) enters.edges before;
            })
        | inr this ↦ let is_from : from ≡ edge.from = ap (λ (e : Edge). e.from) this in
            let is_to : place ≡ edge.to = ap (λ (e : Edge). e.to) this in
            inr (
              same_Some x atom (sym edge.start ∙ ap (λ i. slice_get mid.members i) (sym is_from) ∙ enters.at),
              same_Some y b (sym edge.end ∙ ap (λ i. slice_get mid.members i) (sym is_to) ∙ enters.members.kept place b at),
            )
      ];
    }

pub follows_none : (s : Found) (b : ℕ) (Is : ℕ → Type 0) → ((a : ℕ) → Is a → ⊥) → Follows s s b Is
follows_none s b Is none = record {
  atoms = refl;
  visited = refl;
  members = record { kept = λ i a at. at; only = λ i a at. inl at };
  kept = λ x y edge. edge;
  each = λ a is. absurd (none a is);
  only = λ x y edge. inl edge;
}

grows_both : (old mid new : List ℕ) (P Q R : ℕ → Type 0) → Grows old mid P → Grows mid new Q → ((a : ℕ) → P a → R a) → ((a : ℕ) → Q a → R a) → Grows old new R
grows_both old mid new P Q R first then from_p from_q = record {
  kept = λ i a at. then.kept i a (first.kept i a at);
  only = λ i a at. elim (then.only i a at) [
    | inl there ↦ elim (first.only i a there) [
      | inl before ↦ inl before
      | inr after ↦ inr (from_p a after.0, after.1)
    ]
    | inr after ↦ let longer = grows_longer old mid P first in
        let le = after.1 in
        inr (from_q a after.0, omega (arith, longer, le))
  ];
}

-- first these atoms come and then those
pub follows_both : (old mid new : Found) (b : ℕ) (P Q R : ℕ → Type 0) → Follows old mid b P → Follows mid new b Q → ((a : ℕ) → P a → R a) → ((a : ℕ) → Q a → R a) → ((a : ℕ) → R a → P a ⊎ Q a) → Follows old new b R
follows_both old mid new b P Q R first then from_p from_q cases = record {
  atoms = then.atoms ∙ first.atoms;
  visited = then.visited ∙ first.visited;
  members = grows_both old.members mid.members new.members P Q R first.members then.members from_p from_q;
  kept = λ x y edge. then.kept x y (first.kept x y edge);
  each = λ a is. elim (cases a is) [
    | inl p ↦ then.kept a b (first.each a p)
    | inr q ↦ then.each a q
  ];
  only = λ x y edge. elim (then.only x y edge) [
    | inl there ↦ elim (first.only x y there) [
      | inl before ↦ inl before
      | inr new_one ↦ inr (from_p x new_one.0, new_one.1)
    ]
    | inr new_one ↦ inr (from_q x new_one.0, new_one.1)
  ];
}

pub follows_same : (old new : Found) (b : ℕ) (P Q : ℕ → Type 0) → ((a : ℕ) → P a → Q a) → ((a : ℕ) → Q a → P a) → Follows old new b P → Follows old new b Q
follows_same old new b P Q forth back follows = record {
  atoms = follows.atoms;
  visited = follows.visited;
  members = record {
    kept = follows.members.kept;
    only = λ i a at. elim (follows.members.only i a at) [
      | inl there ↦ inl there
      | inr after ↦ inr (forth a after.0, after.1)
    ];
  };
  kept = follows.kept;
  each = λ a is. follows.each a (back a is);
  only = λ x y edge. elim (follows.only x y edge) [
    | inl there ↦ inl there
    | inr new_one ↦ inr (forth x new_one.0, new_one.1)
  ];
}

some_link : Link
some_link = record { from = 0; to = 0; before = 0 }

-- beyond the last link from an atom there is none
pub follows_last : (links : List Link) (s : Found) (b place : ℕ) → IsLast links b (length links) place → Follows s s b (IsLinkedFrom links place b)
follows_last links s b place last = follows_none s b (IsLinkedFrom links place b)
    (λ a from. last.others from.place some_link from.after from.within (from.is some_link).from)

-- the link before the place is followed
pub follows_link : (links : List Link) (old mid new : Found) (b place : ℕ) (l : Link) → 0 < place → place ≤ length links → l ≡ get_or links (place - 1) l → l.from ≡ b → IsLast links l.from (place - 1) l.before → Follows old mid b (IsLinkedFrom links place b) → Follows mid new b (λ a. a ≡ l.to) → Follows old new b (IsLinkedFrom links l.before b)
follows_link links old mid new b place l some within at from before first then =
    let less = before.within in
    let inside : place - 1 < length links = omega (arith, some, within) in
    let link_at : (d : Link) → get_or links (place - 1) d ≡ l = λ d. get_or_default links (place - 1) d l inside ∙ sym at in
    follows_both old mid new b (IsLinkedFrom links place b) (λ a. a ≡ l.to) (IsLinkedFrom links l.before b) first then
    (λ a is. let after = is.after in record { place = is.place; after = omega (arith, after, less, some); within = is.within; is = is.is })
    (λ a is. record {
      place = place - 1;
      after = less;
      within = inside;
      is = λ d. subst (λ (x : Link). Leads b a x) (sym (link_at d)) (record { from = from; to = sym is });
    })
    (λ a is. elim (cases_lt is.place place) [
      | inr more ↦ inl (record { place = is.place; after = more; within = is.within; is = is.is })
      | inl fewer ↦ elim (cases_lt is.place (place - 1)) [
        | inl earlier ↦ absurd (before.others is.place some_link is.after earlier ((is.is some_link).from ∙ sym from))
        | inr this ↦ let same : is.place ≡ place - 1 = omega (arith, fewer, this, some) in
            inr (sym (is.is l).to ∙ ap (λ (k : ℕ). (get_or links k l).to) same ∙ ap (λ (x : Link). x.to) (link_at l))
      ]
    ])

-- all links were followed
pub follows_links : (links : List Link) (old new : Found) (b place : ℕ) → place ≡ 0 → Follows old new b (IsLinkedFrom links place b) → Follows old new b (IsLinked links b)
follows_links links old new b place none follows =
    let linked : (a : ℕ) → IsLinkedFrom links place b a → IsLinked links b a = λ a is. (is.place, get_or links is.place some_link, is.within, get_or_default links is.place (get_or links is.place some_link) some_link is.within, is.is some_link) in
    let from : (a : ℕ) → IsLinked links b a → IsLinkedFrom links place b a = λ a is. record {
      place = is.0;
      after = omega (arith, none);
      within = is.2;
      is = λ d. subst (λ (x : Link). Leads b a x) (sym (get_or_default links is.0 d is.1 is.2 ∙ is.3)) is.4;
    } in
    follows_same old new b (IsLinkedFrom links place b) (IsLinked links b) linked from follows
