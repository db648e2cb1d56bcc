-- How much is pending.
use Rattle.std.proofs.Common.{ℕ, ◌≡◌, ◌<◌, ◌≤◌, ◌+◌, inl, inr, zero, suc, Bool, true, false, List, [], ◌∷◌, map, length, get_or, sym, ◌∙◌, ap, subst, arith, refl}
use Rattle.std.specs.Prelude.{All}
use lib.Dec.{eqb}
use Rattle.std.specs.List.{list_any, IsDistinct}
use Rattle.std.proofs.lemmas.Bool.{ne_eqb, eqb-true, or_cases}
use Rattle.std.proofs.lemmas.List.{length-map}
use Rattle.std.proofs.lemmas.List.Elements.{All-head, All-tail, All-weaker, recursion_from_All}
use Rattle.std.proofs.lemmas.Map.Steps.{length-le_from_distinct_below}
use Rattle.ms_watch.specs.declared.lists.Watch.{Watch}
use Rattle.ms_watch.specs.declared.lists.Node.{Node}
use Rattle.ms_watch.specs.Links.{Links, no_node, LinksTo, watch_at, HaveLists}
use Rattle.ms_watch.specs.Watches.{pending}
use Rattle.ms_watch.specs.Walks.{reach, pending_in}
use Rattle.ms_watch.proofs.Linked.{links_within}

any_all : (P : ℕ → Type 0) (places : List ℕ) (q : ℕ) → All P places → list_any (eqb q) places ≡ true → P q
any_all P [] q all is = cc
any_all P (p ∷ ps) q all is = elim (or_cases (eqb q p) (list_any (eqb q) ps) is) [
  | inl here ↦ subst P (sym (eqb-true q p here)) (All-head P p ps all)
  | inr behind ↦ any_all P ps q (All-tail P p ps all) behind
]

links_distinct : (nodes : List Node) (start : ℕ) (places : List ℕ) → LinksTo nodes start places → IsDistinct eqb places
unfolding IsDistinct
links_distinct nodes start [] links = tt
links_distinct nodes start (p ∷ ps) links = (
  recursion_from_All (λ y. eqb p y ≡ false) ps (All-weaker (λ (y : ℕ). y ≡ p → ⊥) (λ (y : ℕ). eqb p y ≡ false) (λ y other. ne_eqb p y (λ e. other (sym e))) ps links.2),
  links_distinct nodes (get_or nodes p no_node).next ps links.3,
)

links_few : (nodes : List Node) (start : ℕ) (places : List ℕ) → LinksTo nodes start places → length places ≤ length nodes
links_few nodes start places links = length-le_from_distinct_below places (length nodes) (links_distinct nodes start places links) (λ q is. any_all (λ (p : ℕ). p < length nodes) places q (links_within nodes start places links) is)

reach_is : (nodes : List Node) (start : ℕ) (places : List ℕ) (fuel : ℕ) → LinksTo nodes start places → length places ≤ fuel → reach nodes fuel start ≡ length places
unfolding reach
reach_is nodes start places zero links few = elim places as (λ (ps : List ℕ). length ps ≤ 0 → 0 ≡ length ps) [
  | [] ↦ λ le. refl
  | p ∷ ps ↦ λ le. absurd (omega arith)
] few
reach_is nodes start [] (suc fuel) links few = subst (λ (n : ℕ). reach nodes (suc fuel) n ≡ 0) (sym links) refl
reach_is nodes start (p ∷ ps) (suc fuel) links few =
    let at : start ≡ suc p = omega (arith, links.0) in
    let rest : reach nodes fuel (get_or nodes p no_node).next ≡ length ps = reach_is nodes (get_or nodes p no_node).next ps fuel links.3 (omega arith) in
    subst (λ (n : ℕ). reach nodes (suc fuel) n ≡ suc (length ps)) (sym at) (ap suc rest)

-- the number is the length of the list
pub pending_is : (links : Links) (lists : ℕ → List Watch) → HaveLists links lists → pending_in links ≡ length (lists pending)
pending_is links lists have =
    reach_is links.nodes (get_or links.heads pending 0) (have.chains pending) (length links.nodes) (have.linked pending) (links_few links.nodes (get_or links.heads pending 0) (have.chains pending) (have.linked pending))
    ∙ sym (ap length (have.shown pending) ∙ simp length-map)
