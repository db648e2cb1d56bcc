-- How the lists change with the links.
use Rattle.std.proofs.Common.{ℕ, ◌≡◌, ◌<◌, ◌≤◌, ◌+◌, ◌-◌, ◌⊎◌, inl, inr, suc, List, [], ◌∷◌, ◌++◌, Bool, cond, map, length, get_or, set, sym, ◌∙◌, ap, subst, arith, refl}
use Rattle.std.specs.Prelude.{All}
use lib.Dec.{eqb}
use Rattle.std.proofs.lemmas.Bool.{cases_eq, cond-true, cond-false, eq-eqb, ne_eqb}
use Rattle.std.proofs.lemmas.List.{get_or-set_same, get_or-set_other, length-append, length-set, get_or_default, get_or_past, map-append}
use Rattle.std.proofs.Math.ListN.{get_or-append}
use Rattle.std.proofs.Math.Seq.{get_or-append_seam}
use Rattle.std.proofs.lemmas.List.Elements.{All-nil, All-cons, All-head, All-tail, All-weaker}
use Rattle.ms_watch.specs.declared.lists.Watch.{Watch}
use Rattle.ms_watch.specs.declared.lists.Node.{Node}
use Rattle.ms_watch.specs.Links.{Links, HasFront, IsGrown, no_node, relinked, added, swapped, LinksTo, watch_at, HaveLists, put}

pub put_here : {X : Type 0} (values : ℕ → X) (at : ℕ) (value : X) (n : ℕ) → n ≡ at → put values at value n ≡ value
put_here values at value n same = cond-true (eqb n at) value (values n) (eq-eqb n at same)

pub put_other : {X : Type 0} (values : ℕ → X) (at : ℕ) (value : X) (n : ℕ) → (n ≡ at → ⊥) → put values at value n ≡ values n
put_other values at value n other = cond-false (eqb n at) value (values n) (ne_eqb n at other)

-- places that don't change
links_same : (old new : List Node) (start : ℕ) (places : List ℕ) → length old ≤ length new → All (λ place. place < length old → get_or new place no_node ≡ get_or old place no_node) places → LinksTo old start places → LinksTo new start places
links_same old new start [] longer same links = links
links_same old new start (place ∷ more) longer same links =
    let here : get_or new place no_node ≡ get_or old place no_node = All-head (λ (p : ℕ). p < length old → get_or new p no_node ≡ get_or old p no_node) place more same links.1 in
    let lt : place < length old = links.1 in (
      links.0,
      (omega arith),
      links.2,
      subst (λ (n : ℕ). LinksTo new n more) (sym (ap (λ (x : Node). x.next) here))
          (links_same old new (get_or old place no_node).next more longer (All-tail (λ (p : ℕ). p < length old → get_or new p no_node ≡ get_or old p no_node) place more same) links.3),
    )

-- places in the nodes
pub links_within : (nodes : List Node) (start : ℕ) (places : List ℕ) → LinksTo nodes start places → All (λ place. place < length nodes) places
links_within nodes start [] links = All-nil (λ (p : ℕ). p < length nodes)
links_within nodes start (place ∷ more) links = All-cons (λ (p : ℕ). p < length nodes) place more links.1 (links_within nodes (get_or nodes place no_node).next more links.3)

map_same : (old new : List Node) (places : List ℕ) → All (λ place. get_or new place no_node ≡ get_or old place no_node) places → map (watch_at new) places ≡ map (watch_at old) places
map_same old new [] same = refl
map_same old new (place ∷ more) same =
    let P : ℕ → Type 0 = λ p. get_or new p no_node ≡ get_or old p no_node in
    let head : watch_at new place ≡ watch_at old place = ap (λ (n : Node). n.watch) (All-head P place more same) in
    let tail : map (watch_at new) more ≡ map (watch_at old) more = map_same old new more (All-tail P place more same) in
    ap (λ (w : Watch). w ∷ map (watch_at new) more) head ∙ ap (λ (ws : List Watch). watch_at old place ∷ ws) tail

record IsSplit (nodes : List Node) (start : ℕ) (places : List ℕ) (first : Watch) (rest : List Watch) : Type 0 where
  place : ℕ
  more : List ℕ
  same : places ≡ place ∷ more
  links : LinksTo nodes start (place ∷ more)
  watch_is : watch_at nodes place ≡ first
  rest_is : map (watch_at nodes) more ≡ rest

split_from : (nodes : List Node) (start : ℕ) (places : List ℕ) (first : Watch) (rest : List Watch) → LinksTo nodes start places → map (watch_at nodes) places ≡ first ∷ rest → IsSplit nodes start places first rest
split_from nodes start [] first rest links is = cc
split_from nodes start (place ∷ more) first rest links is = record { place = place; more = more; same = refl; links = links; watch_is = cc; rest_is = cc }

-- what is first in a list
pub front_there : (links : Links) (lists : ℕ → List Watch) (list : ℕ) (first : Watch) (rest : List Watch) → HaveLists links lists → lists list ≡ first ∷ rest → HasFront links list first
front_there links lists list first rest have is =
    let s = split_from links.nodes (get_or links.heads list 0) (have.chains list) first rest (have.linked list) (sym (have.shown list) ∙ is) in
    let lt : s.place < length links.nodes = s.links.1 in
    record {
      place = s.place;
      head = s.links.0;
      within = lt;
      same = λ d. ap (λ (n : Node). n.watch) (get_or_default links.nodes s.place d no_node lt) ∙ s.watch_is;
    }

-- the first node taken out of one list, and put in front of another
pub have_relinked : (links : Links) (lists : ℕ → List Watch) (from to : ℕ) (first watch : Watch) (rest : List Watch) → HaveLists links lists → lists from ≡ first ∷ rest → (from ≡ to → ⊥) → from < length links.heads → to < length links.heads → HaveLists (relinked links from to watch) (put (put lists from rest) to (watch ∷ lists to))
have_relinked links lists from to first watch rest have is differ from_there to_there =
    let s = split_from links.nodes (get_or links.heads from 0) (have.chains from) first rest (have.linked from) (sym (have.shown from) ∙ is) in
    let new : Links = relinked links from to watch in
    let head : ℕ = get_or links.heads from 0 in
    let at : head ≡ s.place + 1 = s.links.0 in
    let place : head - 1 ≡ s.place = omega arith in
    let there : s.place < length links.nodes = s.links.1 in
    let next : ℕ = (get_or links.nodes (head - 1) no_node).next in
    let less : List ℕ = set links.heads from next in
    let node : Node = record { watch = watch; next = get_or less to 0 } in
    let longer : length links.nodes ≤ length new.nodes = omega (arith, length-set links.nodes (head - 1) node) in
    let other_node : (p : ℕ) → (p ≡ s.place → ⊥) → get_or new.nodes p no_node ≡ get_or links.nodes p no_node = λ p o. get_or-set_other links.nodes (head - 1) p node no_node (λ e. o (e ∙ place)) in
    let this_node : get_or new.nodes s.place no_node ≡ node = subst (λ (n : ℕ). get_or (set links.nodes n node) s.place no_node ≡ node) (sym place) (get_or-set_same links.nodes s.place node no_node there) in
    let mine : have.owner s.place ≡ from = All-head (λ (p : ℕ). have.owner p ≡ from) s.place s.more (subst (λ (ps : List ℕ). All (λ p. have.owner p ≡ from) ps) s.same (have.owned from)) in
    let apart : (list : ℕ) → (list ≡ from → ⊥) → All (λ p. p ≡ s.place → ⊥) (have.chains list) = λ list o. All-weaker (λ (p : ℕ). have.owner p ≡ list) (λ (p : ℕ). p ≡ s.place → ⊥) (λ p own same. o (sym own ∙ ap have.owner same ∙ mine)) (have.chains list) (have.owned list) in
    let kept : (start : ℕ) (places : List ℕ) → All (λ p. p ≡ s.place → ⊥) places → LinksTo links.nodes start places → LinksTo new.nodes start places = λ start places o l.
    links_same links.nodes new.nodes start places longer (All-weaker (λ (p : ℕ). p ≡ s.place → ⊥) (λ (p : ℕ). p < length links.nodes → get_or new.nodes p no_node ≡ get_or links.nodes p no_node) (λ p ne lt. other_node p ne) places o) l in
    let seen : (places : List ℕ) → All (λ p. p ≡ s.place → ⊥) places → map (watch_at new.nodes) places ≡ map (watch_at links.nodes) places = λ places o.
    map_same links.nodes new.nodes places (All-weaker (λ (p : ℕ). p ≡ s.place → ⊥) (λ (p : ℕ). get_or new.nodes p no_node ≡ get_or links.nodes p no_node) other_node places o) in
    let chains : ℕ → List ℕ = put (put have.chains from s.more) to (s.place ∷ have.chains to) in
    let owner : ℕ → ℕ = put have.owner s.place to in
    let to_apart : All (λ p. p ≡ s.place → ⊥) (have.chains to) = apart to (λ e. differ (sym e)) in
    let owned_still : (list : ℕ) (places : List ℕ) → All (λ p. p ≡ s.place → ⊥) places → All (λ p. have.owner p ≡ list) places → All (λ p. owner p ≡ list) places = λ list places o own k d lt. put_other have.owner s.place to (get_or places k d) (o k d lt) ∙ own k d lt in
    let more_owned : All (λ p. have.owner p ≡ from) s.more = All-tail (λ (p : ℕ). have.owner p ≡ from) s.place s.more (subst (λ (ps : List ℕ). All (λ p. have.owner p ≡ from) ps) s.same (have.owned from)) in
    record {
      chains = chains;
      owner = owner;
      linked = λ list. elim (cases_eq list to) [
        | inl here ↦ (
            let h : get_or new.heads list 0 ≡ s.place + 1 = ap (λ n. get_or new.heads n 0) here ∙ get_or-set_same less to head 0 (omega (arith, length-set links.heads from next)) ∙ at in
            subst (LinksTo new.nodes (get_or new.heads list 0)) (sym (put_here (put have.chains from s.more) to (s.place ∷ have.chains to) list here)) (
              h,
              (omega arith),
              to_apart,
              subst (λ (n : ℕ). LinksTo new.nodes n (have.chains to)) (sym (get_or-set_other links.heads from to next 0 (λ e. differ (sym e))) ∙ sym (ap (λ (x : Node). x.next) this_node))
                  (kept (get_or links.heads to 0) (have.chains to) to_apart (have.linked to)),
            ))
        | inr not_to ↦ elim (cases_eq list from) [
          | inl here ↦ (
              let h : get_or new.heads list 0 ≡ next = ap (λ n. get_or new.heads n 0) here ∙ get_or-set_other less to from head 0 differ ∙ get_or-set_same links.heads from next 0 from_there in
              let n : next ≡ (get_or links.nodes s.place no_node).next = ap (λ (p : ℕ). (get_or links.nodes p no_node).next) place in
              subst (LinksTo new.nodes (get_or new.heads list 0)) (sym (put_other (put have.chains from s.more) to (s.place ∷ have.chains to) list not_to ∙ put_here have.chains from s.more list here))
              (subst (λ (n : ℕ). LinksTo new.nodes n s.more) (sym (h ∙ n)) (kept (get_or links.nodes s.place no_node).next s.more s.links.2 s.links.3)))
          | inr not_from ↦ (
              let h : get_or new.heads list 0 ≡ get_or links.heads list 0 = get_or-set_other less to list head 0 not_to ∙ get_or-set_other links.heads from list next 0 not_from in
              subst (LinksTo new.nodes (get_or new.heads list 0)) (sym (put_other (put have.chains from s.more) to (s.place ∷ have.chains to) list not_to ∙ put_other have.chains from s.more list not_from))
              (subst (λ (n : ℕ). LinksTo new.nodes n (have.chains list)) (sym h) (kept (get_or links.heads list 0) (have.chains list) (apart list not_from) (have.linked list))))
        ]
      ];
      owned = λ list. elim (cases_eq list to) [
        | inl here ↦ subst (λ (ps : List ℕ). All (λ p. owner p ≡ list) ps) (sym (put_here (put have.chains from s.more) to (s.place ∷ have.chains to) list here))
            (All-cons (λ (p : ℕ). owner p ≡ list) s.place (have.chains to) (put_here have.owner s.place to s.place refl ∙ sym here)
            (owned_still list (have.chains to) to_apart (subst (λ (n : ℕ). All (λ p. have.owner p ≡ n) (have.chains to)) (sym here) (have.owned to))))
        | inr not_to ↦ elim (cases_eq list from) [
          | inl here ↦ subst (λ (ps : List ℕ). All (λ p. owner p ≡ list) ps) (sym (put_other (put have.chains from s.more) to (s.place ∷ have.chains to) list not_to ∙ put_here have.chains from s.more list here))
              (owned_still list s.more s.links.2 (subst (λ (n : ℕ). All (λ p. have.owner p ≡ n) s.more) (sym here) more_owned))
          | inr not_from ↦ subst (λ (ps : List ℕ). All (λ p. owner p ≡ list) ps) (sym (put_other (put have.chains from s.more) to (s.place ∷ have.chains to) list not_to ∙ put_other have.chains from s.more list not_from))
              (owned_still list (have.chains list) (apart list not_from) (have.owned list))
        ]
      ];
      shown = λ list. elim (cases_eq list to) [
        | inl here ↦ put_here (put lists from rest) to (watch ∷ lists to) list here
            ∙ ap (λ (ws : List Watch). watch ∷ ws) (have.shown to ∙ sym (seen (have.chains to) to_apart))
            ∙ ap (λ (w : Watch). w ∷ map (watch_at new.nodes) (have.chains to)) (sym (ap (λ (n : Node). n.watch) this_node))
            ∙ sym (ap (map (watch_at new.nodes)) (put_here (put have.chains from s.more) to (s.place ∷ have.chains to) list here))
        | inr not_to ↦ elim (cases_eq list from) [
          | inl here ↦ put_other (put lists from rest) to (watch ∷ lists to) list not_to ∙ put_here lists from rest list here
              ∙ sym s.rest_is ∙ sym (seen s.more s.links.2)
              ∙ sym (ap (map (watch_at new.nodes)) (put_other (put have.chains from s.more) to (s.place ∷ have.chains to) list not_to ∙ put_here have.chains from s.more list here))
          | inr not_from ↦ put_other (put lists from rest) to (watch ∷ lists to) list not_to ∙ put_other lists from rest list not_from
              ∙ have.shown list ∙ sym (seen (have.chains list) (apart list not_from))
              ∙ sym (ap (map (watch_at new.nodes)) (put_other (put have.chains from s.more) to (s.place ∷ have.chains to) list not_to ∙ put_other have.chains from s.more list not_from))
        ]
      ];
    }

read_front : (nodes : List Node) (start place : ℕ) (first : Watch) (places : List ℕ) → LinksTo nodes start places → start ≡ place + 1 → watch_at nodes place ≡ first → (rest : List Watch) × (map (watch_at nodes) places ≡ first ∷ rest)
read_front nodes start place first [] links at is = absurd (omega arith)
read_front nodes start place first (p ∷ more) links at is =
    let head : start ≡ p + 1 = links.0 in
    let same : p ≡ place = omega arith in
    (map (watch_at nodes) more, ap (λ (w : Watch). w ∷ map (watch_at nodes) more) (ap (watch_at nodes) same ∙ is))

-- a first watch is that of the list
pub front_is : (links : Links) (lists : ℕ → List Watch) (list : ℕ) (first : Watch) → HaveLists links lists → HasFront links list first → (rest : List Watch) × (lists list ≡ first ∷ rest)
front_is links lists list first have front =
    let r = read_front links.nodes (get_or links.heads list 0) front.place first (have.chains list) (have.linked list) front.head (front.same no_node) in
    (r.0, have.shown list ∙ r.1)

-- a list without a first watch is empty
pub none_is : (links : Links) (lists : ℕ → List Watch) (list : ℕ) → HaveLists links lists → ((first : Watch) → ¬ HasFront links list first) → lists list ≡ []
none_is links lists list have none = elim (lists list) as (λ (ws : List Watch). lists list ≡ ws → ws ≡ []) [
  | [] ↦ λ is. refl
  | w ∷ ws ↦ λ is. absurd (none w (front_there links lists list w ws have is))
] refl

-- more lists, all empty
pub have_grown : (old new : Links) (count : ℕ) (lists : ℕ → List Watch) → IsGrown old new count → HaveLists old lists → HaveLists new lists
have_grown old new count lists grown have = record {
  chains = have.chains;
  owner = have.owner;
  linked = λ list. subst (λ (nodes : List Node). LinksTo nodes (get_or new.heads list 0) (have.chains list)) (sym grown.nodes)
      (subst (λ (n : ℕ). LinksTo old.nodes n (have.chains list)) (sym (grown.heads list)) (have.linked list));
  owned = have.owned;
  shown = λ list. have.shown list ∙ ap (λ (nodes : List Node). map (watch_at nodes) (have.chains list)) (sym grown.nodes);
}

-- no lists
pub have_none : (links : Links) → links.heads ≡ [] → HaveLists links (λ _. [])
have_none links none = record {
  chains = λ _. [];
  owner = λ n. n;
  linked = λ list. ap (λ (heads : List ℕ). get_or heads list 0) none;
  owned = λ list. All-nil (λ (p : ℕ). p ≡ list);
  shown = λ list. refl;
}

-- a new node in front of a list
pub have_added : (links : Links) (lists : ℕ → List Watch) (at : ℕ) (watch : Watch) → HaveLists links lists → at < length links.heads → HaveLists (added links at watch) (put lists at (watch ∷ lists at))
have_added links lists at watch have there =
    let new : Links = added links at watch in
    let node : Node = record { watch = watch; next = get_or links.heads at 0 } in
    let place : ℕ = length links.nodes in
    let longer : length links.nodes ≤ length new.nodes = omega (arith, length-append links.nodes (node ∷ [])) in
    let more : place < length new.nodes = omega (arith, length-append links.nodes (node ∷ [])) in
    let within : (list : ℕ) → All (λ p. p < place) (have.chains list) = λ list. links_within links.nodes (get_or links.heads list 0) (have.chains list) (have.linked list) in
    let front : (p : ℕ) → p < place → get_or new.nodes p no_node ≡ get_or links.nodes p no_node = λ p lt. get_or-append links.nodes (node ∷ []) no_node p lt in
    let this : get_or new.nodes place no_node ≡ node = get_or-append_seam links.nodes node [] no_node in
    let kept : (list : ℕ) → LinksTo new.nodes (get_or links.heads list 0) (have.chains list) = λ list. links_same links.nodes new.nodes (get_or links.heads list 0) (have.chains list) longer (λ k d lt. front (get_or (have.chains list) k d)) (have.linked list) in
    let seen : (list : ℕ) → map (watch_at new.nodes) (have.chains list) ≡ map (watch_at links.nodes) (have.chains list) = λ list. map_same links.nodes new.nodes (have.chains list) (λ k d lt. front (get_or (have.chains list) k d) (within list k d lt)) in
    let chains : ℕ → List ℕ = put have.chains at (place ∷ have.chains at) in
    let owner : ℕ → ℕ = put have.owner place at in
    let apart : (list : ℕ) → All (λ p. p ≡ place → ⊥) (have.chains list) = λ list k d lt same. (let low = within list k d lt in absurd (omega arith)) in
    let owned_still : (list : ℕ) → All (λ p. owner p ≡ list) (have.chains list) = λ list k d lt. put_other have.owner place at (get_or (have.chains list) k d) (apart list k d lt) ∙ have.owned list k d lt in
    record {
      chains = chains;
      owner = owner;
      linked = λ list. elim (cases_eq list at) [
        | inl here ↦ (
            let h : get_or new.heads list 0 ≡ place + 1 = ap (λ n. get_or new.heads n 0) here ∙ get_or-set_same links.heads at (place + 1) 0 there in
            subst (LinksTo new.nodes (get_or new.heads list 0)) (sym (put_here have.chains at (place ∷ have.chains at) list here))
            (h, more, apart at, subst (λ (n : ℕ). LinksTo new.nodes n (have.chains at)) (sym (ap (λ (x : Node). x.next) this)) (kept at)))
        | inr other ↦
            subst (LinksTo new.nodes (get_or new.heads list 0)) (sym (put_other have.chains at (place ∷ have.chains at) list other))
            (subst (λ (n : ℕ). LinksTo new.nodes n (have.chains list)) (sym (get_or-set_other links.heads at list (place + 1) 0 other)) (kept list))
      ];
      owned = λ list. elim (cases_eq list at) [
        | inl here ↦ subst (λ (ps : List ℕ). All (λ p. owner p ≡ list) ps) (sym (put_here have.chains at (place ∷ have.chains at) list here))
            (All-cons (λ (p : ℕ). owner p ≡ list) place (have.chains at) (put_here have.owner place at place refl ∙ sym here) (subst (λ (n : ℕ). All (λ p. owner p ≡ n) (have.chains at)) (sym here) (owned_still at)))
        | inr other ↦ subst (λ (ps : List ℕ). All (λ p. owner p ≡ list) ps) (sym (put_other have.chains at (place ∷ have.chains at) list other)) (owned_still list)
      ];
      shown = λ list. elim (cases_eq list at) [
        | inl here ↦ put_here lists at (watch ∷ lists at) list here
            ∙ ap (λ (ws : List Watch). watch ∷ ws) (have.shown at ∙ sym (seen at))
            ∙ ap (λ (w : Watch). w ∷ map (watch_at new.nodes) (have.chains at)) (sym (ap (λ (n : Node). n.watch) this))
            ∙ sym (ap (map (watch_at new.nodes)) (put_here have.chains at (place ∷ have.chains at) list here))
        | inr other ↦ put_other lists at (watch ∷ lists at) list other ∙ have.shown list ∙ sym (seen list)
            ∙ sym (ap (map (watch_at new.nodes)) (put_other have.chains at (place ∷ have.chains at) list other))
      ];
    }

-- one number for the other
abbrev pub flip : ℕ → ℕ → ℕ → ℕ
flip one other n = put (put (λ m. m) one other) other one n

pub flip_one : (one other n : ℕ) → (one ≡ other → ⊥) → n ≡ one → flip one other n ≡ other
flip_one one other n differ same = put_other (put (λ (m : ℕ). m) one other) other one n (λ e. differ (sym same ∙ e)) ∙ put_here (λ (m : ℕ). m) one other n same

pub flip_other : (one other n : ℕ) → n ≡ other → flip one other n ≡ one
flip_other one other n same = put_here (put (λ (m : ℕ). m) one other) other one n same

pub flip_neither : (one other n : ℕ) → (n ≡ one → ⊥) → (n ≡ other → ⊥) → flip one other n ≡ n
flip_neither one other n not_one not_other = put_other (put (λ (m : ℕ). m) one other) other one n not_other ∙ put_other (λ (m : ℕ). m) one other n not_one

flip_back : (one other n m : ℕ) → (one ≡ other → ⊥) → m ≡ flip one other n → flip one other m ≡ n
flip_back one other n m differ is = elim (cases_eq n other) [
  | inl here ↦ flip_one one other m differ (is ∙ flip_other one other n here) ∙ sym here
  | inr not_other ↦ elim (cases_eq n one) [
    | inl here ↦ flip_other one other m (is ∙ flip_one one other n differ here) ∙ sym here
    | inr not_one ↦ (
        let same : m ≡ n = is ∙ flip_neither one other n not_one not_other in
        flip_neither one other m (λ e. not_one (sym same ∙ e)) (λ e. not_other (sym same ∙ e)) ∙ same)
  ]
]

-- two lists exchanged
pub have_swapped : (links : Links) (lists : ℕ → List Watch) (one other : ℕ) → HaveLists links lists → (one ≡ other → ⊥) → one < length links.heads → other < length links.heads → HaveLists (swapped links one other) (λ list. lists (flip one other list))
have_swapped links lists one other have differ one_there other_there =
    let less : List ℕ = set links.heads one (get_or links.heads other 0) in
    let heads : List ℕ = set less other (get_or links.heads one 0) in
    record {
      chains = λ list. have.chains (flip one other list);
      owner = λ place. flip one other (have.owner place);
      linked = λ list.
          let head : get_or heads list 0 ≡ get_or links.heads (flip one other list) 0 = elim (cases_eq list other) [
            | inl here ↦ ap (λ n. get_or heads n 0) here ∙ get_or-set_same less other (get_or links.heads one 0) 0 (omega (arith, length-set links.heads one (get_or links.heads other 0)))
                ∙ ap (λ n. get_or links.heads n 0) (sym (flip_other one other list here))
            | inr not_other ↦ get_or-set_other less other list (get_or links.heads one 0) 0 not_other ∙ elim (cases_eq list one) [
              | inl here ↦ ap (λ n. get_or less n 0) here ∙ get_or-set_same links.heads one (get_or links.heads other 0) 0 one_there
                  ∙ ap (λ n. get_or links.heads n 0) (sym (flip_one one other list differ here))
              | inr not_one ↦ get_or-set_other links.heads one list (get_or links.heads other 0) 0 not_one
                  ∙ ap (λ n. get_or links.heads n 0) (sym (flip_neither one other list not_one not_other))
            ]
          ] in
          subst (λ (n : ℕ). LinksTo links.nodes n (have.chains (flip one other list))) (sym head) (have.linked (flip one other list));
      owned = λ list k d lt. flip_back one other list (have.owner (get_or (have.chains (flip one other list)) k d)) differ (have.owned (flip one other list) k d lt);
      shown = λ list. have.shown (flip one other list);
    }
