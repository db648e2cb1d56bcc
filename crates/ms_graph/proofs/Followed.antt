-- The steps of a search: an edge is followed, or the last node of the path is left.
use Rattle.std.proofs.Common.{◌≡◌, ◌+◌, ◌-◌, ◌<◌, ◌≤◌, ℕ, eqb, Option, Some, None, List, [], ◌∷◌, inl, inr, length, get_or, drop, refl, sym, subst, ◌∙◌, ap, arith}
use Rattle.std.specs.Prelude.{slice_index, option_map}
use Rattle.std.specs.List.{Contains}
use Rattle.std.proofs.lemmas.Bool.{cases_eq, cases_lt, cond_both, eqb-true, eqb-false}
use Rattle.std.proofs.lemmas.List.{length-append, length-set, length-take}
use Rattle.std.proofs.lemmas.Option.{slice_get-get_or, slice_get_past}
use Rattle.ms_graph.specs.declared.edge.Edge.{Edge}
use Rattle.ms_graph.specs.declared.stage.Stage.{Stage}
use Rattle.ms_graph.specs.declared.stage.Stage.TheVariants.{New, Open, Closed}
use Rattle.ms_graph.specs.Chains.{IsTaken}
use Rattle.ms_graph.specs.Components.{Reaches, IsEdge, IsGraph, HasEndsBelow}
use Rattle.ms_graph.specs.Stages.{stage_of, new_count}
use Rattle.ms_graph.specs.State.{State}
use Rattle.ms_graph.specs.Search.{last_of, node_at, current, entered, merged, followed_by, followed, retreated, left, IsStored, AreReaching, AreNumbered, IsFollowed, Stands, IsSearch, work}
use Rattle.ms_graph.proofs.Closing.{length-numbered, new_count-numbered}
use Rattle.ms_graph.proofs.Entered.{stage_same, stage_kept, stage_other, placed_entered, rising_entered, room_entered, reaching_entered, numbered_entered, stands_entered, new_count-entered}
use Rattle.ms_graph.proofs.Left.{end_of, end_open, last_start, after, stack_inside, drop_inside, placed_retreated, rising_retreated, room_retreated, reaching_retreated, numbered_retreated, stands_retreated, placed_closed, rising_closed, room_closed, reaching_closed, numbered_closed, stands_closed, new_before}
use Rattle.ms_graph.proofs.Lists.{none_in, up_to_last}
use Rattle.ms_graph.proofs.Merged.{start_up_to, placed_merged, rising_merged, room_merged, reaching_merged, numbered_merged, stands_merged}
use Rattle.ms_graph.proofs.Standing.{open_not_new, closed_not_new, stands_again}
use Rattle.ms_graph.proofs.Walks.{some_edge, reaches_more}

-- the node is the last of the path
pub record IsEnd (s : State) (node : ℕ) : Type 0 where
  pub some : 0 < length s.path
  pub is : node_at s (end_of s) ≡ node

pub end_from_current : (s : State) (node : ℕ) → current s ≡ Some node → IsEnd s node
end_from_current s node is = elim (cases_lt 0 (length s.path)) [
  | inl some ↦ record {
    some = some;
    is = let read = ap (λ (o : Option ℕ). option_map (node_at s) o) (slice_get-get_or s.path (length s.path - 1) 0 (omega (arith, some))) in
        let same : Some (node_at s (end_of s)) ≡ Some node = sym read ∙ is in cc;
  }
  | inr none ↦ absurd (
      let read = ap (λ (o : Option ℕ). option_map (node_at s) o) (slice_get_past s.path (length s.path - 1) (omega (arith, none))) in
      let never : None ≡ Some node = sym read ∙ is in cc)
]

pub no_end : (s : State) → current s ≡ None → length s.path ≡ 0
no_end s is = elim (cases_lt 0 (length s.path)) [
  | inl some ↦ absurd (
      let read = ap (λ (o : Option ℕ). option_map (node_at s) o) (slice_get-get_or s.path (length s.path - 1) 0 (omega (arith, some))) in
      let never : Some (node_at s (end_of s)) ≡ None = sym read ∙ is in cc)
  | inr none ↦ omega (arith, none)
]

-- each open node reaches the end of the path
pub reach_end : (edges : List Edge) (s : State) (q : ℕ) → IsStored s → AreReaching edges s → 0 < length s.path → q < length s.stack → Reaches edges (node_at s q) (node_at s (end_of s))
reach_end edges s q stored reaching some inside = elim (cases_lt q (end_of s)) [
  | inl less ↦ reaching.forth q (end_of s) (omega (arith, less)) (end_open s stored.rising some)
  | inr more ↦ reaching.back (end_of s) q more inside
      (λ b c lt. absurd (let le = up_to_last s.path b stored.rising.path (stored.rising.starts b c) in omega (arith, le, lt)))
]

-- An edge to a node was followed, from the state `s` to `t`.
pub record Follows (edges : List Edge) (s t : State) (a : ℕ) : Type 0 where
  pub stored : IsStored t
  pub reaching : AreReaching edges t
  pub numbered : AreNumbered edges t
  pub len : length t.stages ≡ length s.stages
  pub new : (b : ℕ) → stage_of t.stages b ≡ New → stage_of s.stages b ≡ New
  pub seen : stage_of t.stages a ≡ New → ⊥
  pub opened : (b p : ℕ) → stage_of s.stages b ≡ Open p → stage_of t.stages b ≡ Open p
  pub stands : (k link link_new from end : ℕ) → (k < link → k < link_new) → Stands s k link (stage_of s.stages from) (stage_of s.stages end) → Stands t k link_new (stage_of t.stages from) (stage_of t.stages end)
  pub end : (p : ℕ) → p < length s.stack → IsFollowed t.segments p (stage_of t.stages a)
  pub shrinks : new_count t.stages + length t.path ≤ new_count s.stages + length s.path

follows_by : (edges : List Edge) (s : State) (a : ℕ) (x : Stage) → stage_of s.stages a ≡ x → IsStored s → AreReaching edges s → AreNumbered edges s → a < length s.stages → ((q : ℕ) → q < length s.stack → Reaches edges (node_at s q) a) → Follows edges s (followed_by x s a) a
follows_by edges s a New is stored reaching numbered inside near =
    let n = length s.stack in
    let here = stage_same s a a inside refl in
    record {
      stored = record {
        placed = placed_entered s a stored.placed inside is;
        rising = rising_entered s a stored.rising;
        room = room_entered s a stored.room inside is;
      };
      reaching = reaching_entered edges s a reaching near;
      numbered = numbered_entered edges s a numbered inside;
      len = length-set s.stages a (Open n);
      new = λ b new. elim (cases_eq b a) [
        | inl same ↦ ap (λ (y : ℕ). stage_of s.stages y) same ∙ is
        | inr differs ↦ sym (stage_other s a b differs) ∙ new
      ];
      seen = λ new. open_not_new n (sym here ∙ new);
      opened = λ b p open'. stage_kept s a b is (λ new. open_not_new p (sym open' ∙ new)) ∙ open';
      stands = λ k link link_new from end left stands. stands_entered s a k link link_new from end stored.placed inside is left stands;
      end = λ p lt. subst (λ y. IsFollowed (entered s a).segments p y) (sym here) (λ b c b_lt. omega (arith, lt, b_lt));
      shrinks = let less = new_count-entered s a inside is in let len = length-append s.path (n ∷ []) in omega (arith, less, len);
    }
follows_by edges s a (Open place) is stored reaching numbered inside near =
    let at = stored.placed.of_node a place is in
    record {
      stored = record {
        placed = placed_merged s place stored.placed;
        rising = rising_merged s place stored.rising;
        room = room_merged s place stored.room;
      };
      reaching = reaching_merged edges s place reaching (λ q lt. subst (λ y. Reaches edges (node_at s q) y) (sym at.node) (near q lt));
      numbered = numbered_merged edges s place numbered;
      len = refl;
      new = λ b new. new;
      seen = λ new. open_not_new place (sym is ∙ new);
      opened = λ b p open'. open';
      stands = λ k link link_new from end left stands. stands_merged s place k link link_new (stage_of s.stages from) (stage_of s.stages end) left stands;
      end = λ p lt. subst (λ y. IsFollowed (merged s place).segments p y) (sym is) (λ b c b_lt. absurd (let le = start_up_to s place b c in omega (arith, le, b_lt)));
      shrinks = omega arith;
    }
follows_by edges s a (Closed n) is stored reaching numbered inside near = record {
  stored = stored;
  reaching = reaching;
  numbered = numbered;
  len = refl;
  new = λ b new. new;
  seen = λ new. closed_not_new n (sym is ∙ new);
  opened = λ b p open'. open';
  stands = λ k link link_new from end left stands. stands_again s k link link_new (stage_of s.stages from) (stage_of s.stages end) left stands;
  end = λ p lt. subst (λ y. IsFollowed s.segments p y) (sym is) tt;
  shrinks = omega arith;
}

pub follows : (edges : List Edge) (s : State) (a : ℕ) → IsStored s → AreReaching edges s → AreNumbered edges s → a < length s.stages → ((q : ℕ) → q < length s.stack → Reaches edges (node_at s q) a) → Follows edges s (followed s a) a
follows edges s a stored reaching numbered inside near = follows_by edges s a (stage_of s.stages a) refl stored reaching numbered inside near

-- an edge of the end of the path is followed
pub follows_edge : (edges : List Edge) (s : State) (node a : ℕ) (last last_new : List ℕ) → IsSearch edges last s → IsEnd s node → IsTaken edges node last last_new a → a < length s.stages → Follows edges s (followed s a) a
follows_edge edges s node a last last_new search at taken inside =
    let edge : IsEdge edges (node_at s (end_of s)) a = record {
      place = taken.place;
      within = taken.within;
      leads = λ d. record { start = (taken.leads d).start ∙ sym at.is; end = (taken.leads d).end };
    } in
    follows edges s a search.stored search.reaching search.numbered inside
    (λ q lt. reaches_more edges (node_at s q) (node_at s (end_of s)) a (reach_end edges s q search.stored search.reaching at.some lt) edge)

pub search_followed : (edges : List Edge) (s : State) (node a : ℕ) (last last_new : List ℕ) → IsSearch edges last s → IsEnd s node → IsTaken edges node last last_new a → a < length s.stages → length last_new ≡ length last → IsSearch edges last_new (followed s a)
search_followed edges s node a last last_new search at taken inside same_len =
    let t = followed s a in
    let f = follows_edge edges s node a last last_new search at taken inside in
    let end_lt = end_open s search.stored.rising at.some in
    record {
      len = same_len ∙ search.len ∙ sym f.len;
      stored = f.stored;
      reaching = f.reaching;
      edges_stand = λ k d lt. elim (cases_eq k taken.place) [
        | inl same ↦
            let edge : Edge = get_or edges k d in
            let leads = taken.leads d in
            let from : edge.from ≡ node = ap (λ (i : ℕ). (get_or edges i d).from) same ∙ leads.start in
            let to : edge.to ≡ a = ap (λ (i : ℕ). (get_or edges i d).to) same ∙ leads.end in
            let was : stage_of s.stages edge.from ≡ Open (end_of s) =
            ap (λ (x : ℕ). stage_of s.stages x) (from ∙ sym at.is) ∙ search.stored.placed.of_place (end_of s) end_lt in
            subst (λ x. Stands t k (slice_index last_new edge.from) x (stage_of t.stages edge.to)) (sym (f.opened edge.from (end_of s) was))
            (inr (subst (λ x. IsFollowed t.segments (end_of s) (stage_of t.stages x)) (sym to) (f.end (end_of s) end_lt)))
        | inr differs ↦
            let edge : Edge = get_or edges k d in
            f.stands k (slice_index last edge.from) (slice_index last_new edge.from) edge.from edge.to (taken.others k d lt differs) (search.edges_stand k d lt)
      ];
      numbered = f.numbered;
    }

-- the work of a followed edge
pub work_followed : (edges : List Edge) (s : State) (node a : ℕ) (last last_new : List ℕ) → IsSearch edges last s → IsEnd s node → IsTaken edges node last last_new a → a < length s.stages → work last_new (followed s a) < work last s
work_followed edges s node a last last_new search at taken inside =
    let f = follows_edge edges s node a last last_new search at taken inside in
    let shrinks = f.shrinks in
    let fewer = taken.fewer in
    omega (arith, shrinks, fewer)

-- The last node of the path was left, from the state `s` to `t`.
pub record Leaves (edges : List Edge) (last : List ℕ) (s t : State) : Type 0 where
  pub search : IsSearch edges last t
  pub len : length t.stages ≡ length s.stages
  pub new : (b : ℕ) → stage_of t.stages b ≡ New → stage_of s.stages b ≡ New
  pub shrinks : work last t < work last s

pub leaves : (edges : List Edge) (s : State) (node : ℕ) (last : List ℕ) → IsSearch edges last s → IsEnd s node → slice_index last node ≡ 0 → Leaves edges last s (left s)
leaves edges s node last search at none =
    let placed = search.stored.placed in
    let rising = search.stored.rising in
    let inside = end_open s rising at.some in
    let done : (i : ℕ) → i < slice_index last (node_at s (end_of s)) → ⊥ =
    λ i lt. let never : i < 0 = subst (λ x. i < x) none (subst (λ x. i < slice_index last x) at.is lt) in omega (arith, never) in
    let some = at.some in
    let len_path = length-take (length s.path - 1) s.path in
    cond_both (eqb (last_of s.segments) (end_of s)) (after s) (retreated s) (λ t. Leaves edges last s t)
    (λ same.
    let start = eqb-true (last_of s.segments) (end_of s) same in
    let len = length-numbered s.stages (drop (end_of s) s.stack) s.count in
    let fewer = new_count-numbered s.stages (drop (end_of s) s.stack) s.count (drop_inside s (end_of s) placed) in
    record {
      search = record {
        len = search.len ∙ sym len;
        stored = record {
          placed = placed_closed s placed inside;
          rising = rising_closed s rising some start;
          room = room_closed s placed search.stored.room inside;
        };
        reaching = reaching_closed edges s search.reaching start;
        edges_stand = λ k d lt. stands_closed edges s k (get_or edges k d).from (get_or edges k d).to last placed rising search.numbered some start done (search.edges_stand k d lt);
        numbered = numbered_closed edges s placed rising search.reaching search.numbered start;
      };
      len = len;
      new = λ b is. new_before s b placed is;
      shrinks = omega (arith, fewer, len_path, some);
    })
    (λ differs.
    let inner : Contains s.segments (end_of s) → ⊥ = λ c. eqb-false (last_of s.segments) (end_of s) differs (last_start s rising some c) in
    record {
      search = record {
        len = search.len;
        stored = record {
          placed = placed_retreated s placed;
          rising = rising_retreated s rising inner;
          room = room_retreated s search.stored.room;
        };
        reaching = reaching_retreated edges s search.reaching;
        edges_stand = λ k d lt. stands_retreated s k (get_or edges k d).from (stage_of s.stages (get_or edges k d).to) last placed done (search.edges_stand k d lt);
        numbered = numbered_retreated edges s search.numbered;
      };
      len = refl;
      new = λ b is. is;
      shrinks = omega (arith, len_path, some);
    })

-- what the code of a step asks for

pub node_inside : (edges : List Edge) (s : State) (node : ℕ) (last : List ℕ) → IsSearch edges last s → IsEnd s node → node < length last
node_inside edges s node last search at =
    let lt = stack_inside s (end_of s) search.stored.placed (end_open s search.stored.rising at.some) in
    let is = at.is in
    let len = search.len in
    omega (arith, lt, is, len)

pub end_inside : (edges : List Edge) (s : State) (node end : ℕ) (last last_new : List ℕ) → IsGraph (length s.stages) edges → IsTaken edges node last last_new end → end < length s.stages
end_inside edges s node end last last_new graph taken =
    let ends : HasEndsBelow (length s.stages) (get_or edges taken.place some_edge) = graph taken.place some_edge taken.within in
    subst (λ x. x < length s.stages) (taken.leads some_edge).end ends.end

-- the search goes on from a node while the path is empty
pub follows_root : (edges : List Edge) (s : State) (root : ℕ) (last : List ℕ) → IsSearch edges last s → s.path ≡ [] → root < length s.stages → Follows edges s (followed s root) root
follows_root edges s root last search none inside =
    follows edges s root search.stored search.reaching search.numbered inside
    (λ q lt. absurd (none_in s.path 0 none (search.stored.rising.starts 0 (search.stored.rising.first (omega (arith, lt))))))

pub search_root : (edges : List Edge) (s : State) (root : ℕ) (last : List ℕ) → IsSearch edges last s → s.path ≡ [] → root < length s.stages → IsSearch edges last (followed s root)
search_root edges s root last search none inside =
    let f = follows_root edges s root last search none inside in
    record {
      len = search.len ∙ sym f.len;
      stored = f.stored;
      reaching = f.reaching;
      edges_stand = λ k d lt.
          let edge : Edge = get_or edges k d in
          let link = slice_index last edge.from in
          f.stands k link link edge.from edge.to (λ left. left) (search.edges_stand k d lt);
      numbered = f.numbered;
    }
