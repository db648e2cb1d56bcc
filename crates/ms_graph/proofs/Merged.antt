-- The segments from a place on are joined.
use Rattle.std.proofs.Common.{◌≡◌, ◌+◌, ◌-◌, ◌<◌, ◌≤◌, ℕ, leb, List, inl, inr, length, get_or, take, sym, subst, ◌∙◌, ap, arith}
use Rattle.std.specs.List.{Contains}
use Rattle.std.proofs.lemmas.Bool.{cases_lt, le-leb, leb-true}
use Rattle.std.specs.List.Sorted.{IsStrictlyIncreasing}
use Rattle.std.proofs.lemmas.List.Kept.{AllPairs-from_increasing, IsStrictlyIncreasing-filter}
use Rattle.ms_graph.specs.declared.edge.Edge.{Edge}
use Rattle.ms_graph.specs.declared.stage.Stage.{Stage}
use Rattle.ms_graph.specs.Components.{Reaches}
use Rattle.ms_graph.specs.State.{State}
use Rattle.ms_graph.specs.Search.{node_at, merged, ArePlaced, AreRising, HasRoom, AreReaching, AreNumbered, Stands}
use Rattle.ms_graph.proofs.Lists.{front_filtered, filtered_contained, filtered_passes, contains_filtered}
use Rattle.ms_graph.proofs.Standing.{followed_fewer, stands_keep}
use Rattle.ms_graph.proofs.Walks.{reaches_through}

pub kept_start : (s : State) (place b : ℕ) → Contains s.segments b → b ≤ place → Contains (merged s place).segments b
kept_start s place b c le = contains_filtered (λ x. leb x place) s.segments b c (le-leb b place le)

pub old_start : (s : State) (place b : ℕ) → Contains (merged s place).segments b → Contains s.segments b
old_start s place b c = filtered_contained (λ x. leb x place) s.segments b c

pub start_up_to : (s : State) (place b : ℕ) → Contains (merged s place).segments b → b ≤ place
start_up_to s place b c = leb-true b place (filtered_passes (λ x. leb x place) s.segments b c)

pub placed_merged : (s : State) (place : ℕ) → ArePlaced s → ArePlaced (merged s place)
placed_merged s place placed = record {
  of_place = placed.of_place;
  of_node = λ b p is. let old = placed.of_node b p is in record { within = old.within; node = old.node };
}

pub rising_merged : (s : State) (place : ℕ) → AreRising s → AreRising (merged s place)
rising_merged s place rising = record {
  path = rising.path;
  segments = IsStrictlyIncreasing-filter (λ x. leb x place) s.segments rising.segments;
  within = rising.within;
  starts = λ b c. rising.starts b (old_start s place b c);
  first = λ some. kept_start s place 0 (rising.first some) (omega arith);
}

pub room_merged : (s : State) (place : ℕ) → HasRoom s → HasRoom (merged s place)
room_merged s place room = record { fits = room.fits; few = room.few }

pub reaching_merged : (edges : List Edge) (s : State) (place : ℕ) → AreReaching edges s → ((q : ℕ) → q < length s.stack → Reaches edges (node_at s q) (node_at s place)) → AreReaching edges (merged s place)
reaching_merged edges s place reaching near = record {
  forth = reaching.forth;
  back = λ p q le lt joined. elim (cases_lt place q) [
    | inl after ↦ elim (cases_lt place p) [
      | inl beyond ↦ reaches_through edges (node_at s q) (node_at s place) (node_at s p) (near q lt) (reaching.forth place p (omega (arith, beyond)) (omega (arith, le, lt)))
      | inr within ↦ reaches_through edges (node_at s q) (node_at s place) (node_at s p) (near q lt)
          (reaching.back p place within (omega (arith, after, lt)) (λ b c b_lt. elim (cases_lt place b) [
            | inl less ↦ less
            | inr b_le ↦ absurd (let past = joined b (kept_start s place b c b_le) b_lt in omega (arith, past, b_le, after))
          ]))
    ]
    | inr before ↦ reaching.back p q le lt (λ b c b_lt. elim (cases_lt place b) [
      | inl less ↦ omega (arith, less, before)
      | inr b_le ↦ joined b (kept_start s place b c b_le) b_lt
    ])
  ];
}

pub numbered_merged : (edges : List Edge) (s : State) (place : ℕ) → AreNumbered edges s → AreNumbered edges (merged s place)
numbered_merged edges s place numbered = record { below = numbered.below; same = numbered.same }

pub stands_merged : (s : State) (place k link link_new : ℕ) (from end : Stage) → (k < link → k < link_new) → Stands s k link from end → Stands (merged s place) k link_new from end
stands_merged s place k link link_new from end left stands =
    stands_keep s (merged s place) k link link_new from end end left (λ p _ _ c. c)
    (λ p _ followed. followed_fewer s.segments (merged s place).segments p end (λ b c. inl (old_start s place b c)) followed)
    (λ n _ closed. closed) stands

pub merged_is : (v s : State) (segments : List ℕ) (place n : ℕ) → v ≡ s → segments ≡ take n v.segments → IsStrictlyIncreasing s.segments → n ≤ length v.segments → ((k : ℕ) → n ≡ k + 1 → get_or v.segments k 0 ≤ place) → ((k : ℕ) → n ≤ k → k < length v.segments → place < get_or v.segments k 0) → record v { segments = segments } ≡ merged s place
merged_is v s segments place n same front rising short last beyond =
    let rising_here = subst (λ (x : State). IsStrictlyIncreasing x.segments) (sym same) rising in
    let within : (k : ℕ) → k < n → k < length v.segments → get_or v.segments k 0 ≤ place = λ k lt inside.
    elim (cases_lt (k + 1) n) [
      | inl less ↦
          let up = AllPairs-from_increasing v.segments rising_here k (n - 1) 0 (omega (arith, less)) (omega (arith, short, lt)) in
          let le = last (n - 1) (omega (arith, lt)) in
          omega (arith, up, le)
      | inr more ↦ last k (omega (arith, lt, more))
    ] in
    ap (λ (xs : List ℕ). record v { segments = xs }) (front ∙ front_filtered place v.segments n within beyond)
    ∙ ap (λ (x : State). merged x place) same
