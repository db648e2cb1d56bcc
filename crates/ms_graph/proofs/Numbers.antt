-- The state before the first node, and the numbers after the last.
use Rattle.std.proofs.Common.{◌≡◌, ◌<◌, ◌≤◌, ◌^◌, ℕ, zero, suc, List, [], length, get_or, map, refl, sym, subst, ◌∙◌, ap, arith}
use Rattle.std.specs.Prelude.{slice_index}
use Rattle.std.specs.List.{All}
use Rattle.std.proofs.lemmas.List.{get_or_default, get_or-map, length-map}
use Rattle.std.proofs.lemmas.List.Elements.{All-from_get_or}
use Rattle.ms_graph.specs.declared.edge.Edge.{Edge}
use Rattle.ms_graph.specs.declared.stage.Stage.{Stage}
use Rattle.ms_graph.specs.declared.stage.Stage.TheVariants.{New, Open, Closed}
use Rattle.ms_graph.specs.Chains.{AllRemain}
use Rattle.ms_graph.specs.Components.{Walk, IsEdge, IsGraph, HasEndsBelow, IsNumbering}
use Rattle.ms_graph.specs.Stages.{stage_of, IsClosed}
use Rattle.ms_graph.specs.State.{State}
use Rattle.ms_graph.specs.Search.{IsStart, IsSearch, IsClosedUpTo, Stands}
use Rattle.ms_graph.proofs.Lists.{none_in}
use Rattle.ms_graph.proofs.Standing.{closed_not_new}
use Rattle.ms_graph.proofs.Walks.{some_edge}

open_not_new' : (s : State) (a p : ℕ) → ((b : ℕ) → stage_of s.stages b ≡ New) → stage_of s.stages a ≡ Open p → ⊥
open_not_new' s a p new is = let never = sym (new a) ∙ is in cc

pub search_start : (nodes : ℕ) (edges : List Edge) (last : List ℕ) (s : State) → nodes < 2 ^ 32 → IsStart nodes s → length last ≡ nodes → AllRemain edges last → IsSearch edges last s
search_start nodes edges last s few start len all_remain =
    let empty : length s.stack ≡ 0 = ap length start.stack in
    let same = start.len in
    record {
      len = len ∙ sym start.len;
      stored = record {
        placed = record {
          of_place = λ p lt. absurd (omega (arith, lt, empty));
          of_node = λ a p is. absurd (open_not_new' s a p start.all_new is);
        };
        rising = record {
          path = λ k lt. absurd (let never = ap length start.path in omega (arith, lt, never));
          segments = λ k lt. absurd (let never = ap length start.segments in omega (arith, lt, never));
          within = λ p c. absurd (none_in s.path p start.path c);
          starts = λ b c. absurd (none_in s.segments b start.segments c);
          first = λ lt. absurd (omega (arith, lt, empty));
        };
        room = record {
          fits = let new = start.new_count in let count = start.count in omega (arith, empty, same, new, count);
          few = omega (arith, few, same);
        };
      };
      reaching = record {
        forth = λ p q le lt. absurd (omega (arith, lt, empty));
        back = λ p q le lt _. absurd (omega (arith, lt, empty));
      };
      edges_stand = λ k d lt.
          let edge : Edge = get_or edges k d in
          subst (λ x. Stands s k (slice_index last edge.from) x (stage_of s.stages edge.to)) (sym (start.all_new edge.from)) (all_remain k d lt);
      numbered = record {
        below = λ a n is. absurd (closed_not_new n (sym is ∙ start.all_new a));
        same = λ a b n is _. absurd (closed_not_new n (sym is ∙ start.all_new a));
      };
    }

-- All nodes were entered and the path is empty.
pub record IsFinished (edges : List Edge) (last : List ℕ) (s : State) : Type 0 where
  pub search : IsSearch edges last s
  pub path : s.path ≡ []
  pub seen : (a : ℕ) → a < length s.stages → stage_of s.stages a ≡ New → ⊥

stack_none : (edges : List Edge) (last : List ℕ) (s : State) → IsFinished edges last s → (p : ℕ) → p < length s.stack → ⊥
stack_none edges last s finished p lt =
    let rising = finished.search.stored.rising in
    none_in s.path 0 finished.path (rising.starts 0 (rising.first (omega (arith, lt))))

closed_stage : (x : Stage) → (x ≡ New → ⊥) → ((p : ℕ) → x ≡ Open p → ⊥) → IsClosed x
closed_stage New new open' = new refl
closed_stage (Open p) new open' = open' p refl
closed_stage (Closed n) new open' = tt

pub all_closed : (edges : List Edge) (last : List ℕ) (s : State) → IsFinished edges last s → All IsClosed s.stages
all_closed edges last s finished =
    All-from_get_or IsClosed s.stages New (λ a lt. closed_stage (stage_of s.stages a) (finished.seen a lt)
    (λ p is. stack_none edges last s finished p (finished.search.stored.placed.of_node a p is).within))

number_is : (stages : List Stage) (numbers : List ℕ) (a : ℕ) → map (λ number. Closed number) numbers ≡ stages → a < length stages → stage_of stages a ≡ Closed (slice_index numbers a)
number_is stages numbers a maps lt =
    let len = length-map numbers (λ (number : ℕ). Closed number) in
    let same = ap length maps in
    ap (λ (xs : List Stage). stage_of xs a) (sym maps) ∙ get_or-map (λ (number : ℕ). Closed number) numbers a 0 New (omega (arith, len, same, lt))

edge_falls : (edges : List Edge) (last numbers : List ℕ) (s : State) (k : ℕ) (d : Edge) → IsSearch edges last s → IsGraph (length s.stages) edges → map (λ number. Closed number) numbers ≡ s.stages → k < length edges → slice_index numbers (get_or edges k d).to ≤ slice_index numbers (get_or edges k d).from
edge_falls edges last numbers s k d search graph maps lt =
    let edge : Edge = get_or edges k d in
    let ends : HasEndsBelow (length s.stages) edge = graph k d lt in
    let from = number_is s.stages numbers edge.from maps ends.start in
    let to = number_is s.stages numbers edge.to maps ends.end in
    subst (λ x. IsClosedUpTo (slice_index numbers edge.from) x) to
    (subst (λ x. Stands s k (slice_index last edge.from) x (stage_of s.stages edge.to)) from (search.edges_stand k d lt))

walk_falls : (edges : List Edge) (numbers : List ℕ) (steps a b : ℕ) → ((x y : ℕ) → IsEdge edges x y → slice_index numbers y ≤ slice_index numbers x) → Walk edges steps a b → slice_index numbers b ≤ slice_index numbers a
walk_falls edges numbers zero a b falls walk = let same = ap (λ (x : ℕ). slice_index numbers x) walk in omega (arith, same)
walk_falls edges numbers (suc steps) a b falls walk =
    let rest = walk_falls edges numbers steps a walk.0 falls walk.1 in
    let last = falls walk.0 b walk.2 in
    omega (arith, rest, last)

pub numbers_final : (edges : List Edge) (last numbers : List ℕ) (s : State) (nodes : ℕ) → IsFinished edges last s → length s.stages ≡ nodes → IsGraph nodes edges → map (λ number. Closed number) numbers ≡ s.stages → IsNumbering nodes edges numbers
numbers_final edges last numbers s nodes finished len graph maps =
    let search = finished.search in
    let graph_here : IsGraph (length s.stages) edges = subst (λ n. IsGraph n edges) (sym len) graph in
    let numbers_len : length numbers ≡ nodes = sym (length-map numbers (λ (number : ℕ). Closed number)) ∙ ap length maps ∙ len in
    let is : (a : ℕ) → a < nodes → stage_of s.stages a ≡ Closed (slice_index numbers a) = λ a lt. number_is s.stages numbers a maps (omega (arith, len, lt)) in
    let falls : (x y : ℕ) → IsEdge edges x y → slice_index numbers y ≤ slice_index numbers x = λ x y edge.
    let leads = edge.leads some_edge in
    let le = edge_falls edges last numbers s edge.place some_edge search graph_here maps edge.within in
    subst (λ z. slice_index numbers y ≤ slice_index numbers z) leads.start (subst (λ z. slice_index numbers z ≤ slice_index numbers (get_or edges edge.place some_edge).from) leads.end le) in
    record {
      len = numbers_len;
      components = λ a b lt_a lt_b. (
        (λ same.
            let is_b : stage_of s.stages b ≡ Closed (slice_index numbers a) = is b lt_b ∙ ap (λ (n : ℕ). Closed n) (sym same) in
            record {
              forth = search.numbered.same a b (slice_index numbers a) (is a lt_a) is_b;
              back = search.numbered.same b a (slice_index numbers a) is_b (is a lt_a);
            }),
        (λ both.
            let le = walk_falls edges numbers both.forth.steps a b falls both.forth.walk in
            let ge = walk_falls edges numbers both.back.steps b a falls both.back.walk in
            omega (arith, le, ge)),
      );
      falling = λ k d lt. edge_falls edges last numbers s k d search graph_here maps lt;
      below = λ k d lt.
          let inside : k < nodes = omega (arith, numbers_len, lt) in
          let less = search.numbered.below k (slice_index numbers k) (is k inside) in
          let fits = search.stored.room.fits in
          let read = get_or_default numbers k d 0 lt in
          omega (arith, less, fits, len, read);
    }
