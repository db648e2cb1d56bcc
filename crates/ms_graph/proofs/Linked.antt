-- The links from each edge to the one before it from the same node.
use Rattle.std.proofs.Common.{◌≡◌, ◌+◌, ◌<◌, ℕ, List, [], ◌∷◌, ◌++◌, inl, inr, length, get_or, set, sym, subst, ◌∙◌, ap, arith}
use Rattle.std.proofs.lemmas.Bool.{cases_eq, cases_lt}
use Rattle.std.proofs.lemmas.List.{get_or_append_left, get_or_default, get_or_push, get_or-set_other, get_or-set_same, length-append, length-set}
use Rattle.std.proofs.lemmas.List.Sums.{sum_by-set}
use Rattle.ms_graph.specs.declared.edge.Edge.{Edge}
use Rattle.ms_graph.specs.Components.{IsGraph, HasEndsBelow}
use Rattle.ms_graph.specs.Chains.{IsLast, AreLinked, AreChains, AllRemain, IsTaken}
use Rattle.ms_graph.proofs.Walks.{some_edge}

from_at : (edges : List Edge) (i k : ℕ) (d : Edge) → i < length edges → k ≡ i → (get_or edges k d).from ≡ (get_or edges i some_edge).from
from_at edges i k d lt same =
    ap (λ (j : ℕ). (get_or edges j d).from) same ∙ ap (λ (e : Edge). e.from) (get_or_default edges i d some_edge lt)

last_here : (edges : List Edge) (i : ℕ) → i < length edges → IsLast edges (get_or edges i some_edge).from (i + 1) (i + 1)
last_here edges i lt = record {
  is_link = record {
    within = omega arith;
    found = λ k d at. from_at edges i k d lt (omega (arith, at));
  };
  others = λ k d le less _. absurd (omega (arith, le, less));
}

last_other : (edges : List Edge) (i node link : ℕ) → i < length edges → (node ≡ (get_or edges i some_edge).from → ⊥) → IsLast edges node i link → IsLast edges node (i + 1) link
last_other edges i node link lt differs last = record {
  is_link = record {
    within = let w = last.is_link.within in omega (arith, w);
    found = last.is_link.found;
  };
  others = λ k d le less from. elim (cases_lt k i) [
    | inl before ↦ last.others k d le before from
    | inr more ↦ differs (sym from ∙ from_at edges i k d lt (omega (arith, more, less)))
  ];
}

-- one more edge is linked
pub linked_more : (nodes : ℕ) (edges : List Edge) (i : ℕ) (last before last_new before_new : List ℕ) → AreLinked nodes edges i last before → i < length edges → (get_or edges i some_edge).from < nodes → last_new ≡ set last (get_or edges i some_edge).from (i + 1) → before_new ≡ before ++ get_or last (get_or edges i some_edge).from 0 ∷ [] → AreLinked nodes edges (i + 1) last_new before_new
linked_more nodes edges i last before last_new before_new linked lt in_range sets pushes =
    let node = (get_or edges i some_edge).from in
    let link = get_or last node 0 in
    let last_len = linked.last_len in
    let before_len = linked.before_len in
    let inside : node < length last = omega (arith, last_len, in_range) in
    let len = length-append before (link ∷ []) in
    let after : AreLinked nodes edges (i + 1) (set last node (i + 1)) (before ++ link ∷ []) = record {
      last_len = length-set last node (i + 1) ∙ last_len;
      before_len = omega (arith, len, before_len);
      of_nodes = λ n n_lt. elim (cases_eq n node) [
        | inl same ↦ subst (λ m. IsLast edges m (i + 1) (get_or (set last node (i + 1)) m 0)) (sym same)
            (subst (λ l. IsLast edges node (i + 1) l) (sym (get_or-set_same last node (i + 1) 0 inside)) (last_here edges i lt))
        | inr differs ↦ subst (λ l. IsLast edges n (i + 1) l) (sym (get_or-set_other last node n (i + 1) 0 differs)) (last_other edges i n (get_or last n 0) lt differs (linked.of_nodes n n_lt))
      ];
      of_edges = λ k d k_lt. elim (cases_lt k i) [
        | inl less ↦ subst (λ l. IsLast edges (get_or edges k d).from k l) (sym (get_or_append_left before (link ∷ []) 0 k (omega (arith, less, before_len)))) (linked.of_edges k d less)
        | inr more ↦ let same : k ≡ i = omega (arith, k_lt, more) in
            subst (λ l. IsLast edges (get_or edges k d).from k l) (sym (get_or_push before link 0 k (omega (arith, same, before_len))))
            (subst (λ n. IsLast edges n k link) (sym (from_at edges i k d lt same)) (subst (λ m. IsLast edges node m link) (sym same) (linked.of_nodes node in_range)))
      ];
    } in
    rw (sets, pushes) after

pub chains_whole : (nodes : ℕ) (edges : List Edge) (last before : List ℕ) → AreLinked nodes edges (length edges) last before → AreChains edges last before
chains_whole nodes edges last before linked = record {
  len = linked.before_len;
  of_nodes = λ n lt. (linked.of_nodes n (let len = linked.last_len in omega (arith, len, lt))).is_link;
  of_edges = linked.of_edges;
}

pub all_remain : (nodes : ℕ) (edges : List Edge) (last before : List ℕ) → IsGraph nodes edges → AreLinked nodes edges (length edges) last before → AllRemain edges last
all_remain nodes edges last before graph linked k d lt =
    let node = (get_or edges k d).from in
    let ends : HasEndsBelow nodes (get_or edges k d) = graph k d lt in
    elim (cases_lt k (get_or last node 0)) [
      | inl less ↦ less
      | inr more ↦ absurd ((linked.of_nodes node ends.start).others k d more lt (ap (λ (e : Edge). e.from) (get_or_default edges k d d lt)))
    ]

-- the last edge from a node is taken: its place, and the link before it
pub chains_taken : (edges : List Edge) (last before : List ℕ) (node j : ℕ) → AreChains edges last before → node < length last → get_or last node 0 ≡ j + 1 → AreChains edges (set last node (get_or before j 0)) before
chains_taken edges last before node j chains inside at =
    let link = chains.of_nodes node inside in
    let within = link.within in
    let lt : j < length edges = omega (arith, within, at) in
    let next = chains.of_edges j some_edge lt in
    let from = link.found j some_edge at in
    let below = next.is_link.within in
    let len = length-set last node (get_or before j 0) in
    record {
      len = chains.len;
      of_nodes = λ n n_lt. elim (cases_eq n node) [
        | inl same ↦ rw same (rw (get_or-set_same last node (get_or before j 0) 0 inside) (record {
          within = omega (arith, below, lt);
          found = λ k d is. next.is_link.found k d is ∙ from;
        }))
        | inr differs ↦ rw (get_or-set_other last node n (get_or before j 0) 0 differs) (chains.of_nodes n (omega (arith, len, n_lt)))
      ];
      of_edges = chains.of_edges;
    }

pub is_taken : (edges : List Edge) (last before : List ℕ) (node j end : ℕ) → AreChains edges last before → node < length last → get_or last node 0 ≡ j + 1 → (get_or edges j some_edge).to ≡ end → IsTaken edges node last (set last node (get_or before j 0)) end
is_taken edges last before node j end chains inside at to =
    let link = chains.of_nodes node inside in
    let within = link.within in
    let lt : j < length edges = omega (arith, within, at) in
    let next = chains.of_edges j some_edge lt in
    let from = link.found j some_edge at in
    let below = next.is_link.within in
    let sums = sum_by-set (λ (x : ℕ). x) last node (get_or before j 0) 0 inside in
    record {
      place = j;
      within = lt;
      leads = λ d. record {
        start = link.found j d at;
        end = ap (λ (e : Edge). e.to) (get_or_default edges j d some_edge lt) ∙ to;
      };
      others = λ k d k_lt differs remains. elim (cases_eq (get_or edges k d).from node) [
        | inl same ↦ rw same (rw (get_or-set_same last node (get_or before j 0) 0 inside)
            (let here : k < j + 1 = subst (λ l. k < l) at (subst (λ n. k < get_or last n 0) same remains) in
            let less : k < j = omega (arith, here, differs) in
            elim (cases_lt k (get_or before j 0)) [
              | inl before_it ↦ before_it
              | inr more ↦ absurd (next.others k d more less (same ∙ sym from))
            ]))
        | inr other ↦ rw (get_or-set_other last node (get_or edges k d).from (get_or before j 0) 0 other) remains
      ];
      fewer = omega (arith, sums, below, at);
    }
