-- A new node is entered.
use Rattle.std.proofs.Common.{◌≡◌, ◌+◌, ◌<◌, ◌≤◌, ℕ, cond, List, [], ◌∷◌, ◌++◌, inl, inr, length, sym, subst, ◌∙◌, ap, arith}
use Rattle.std.specs.List.{Contains}
use Rattle.std.proofs.lemmas.Bool.{cases_eq, cases_lt}
use Rattle.std.proofs.lemmas.List.{get_or_append_left, get_or_push, get_or-set_other, get_or-set_same, length-append, length-set}
use Rattle.std.proofs.lemmas.List.Elements.{Contains-append_left, Contains-push, Contains-push_cases}
use Rattle.std.proofs.lemmas.List.Sums.{sum_by-set}
use Rattle.ms_graph.specs.declared.edge.Edge.{Edge}
use Rattle.ms_graph.specs.declared.stage.Stage.{Stage}
use Rattle.ms_graph.specs.declared.stage.Stage.TheVariants.{New, Open, Closed}
use Rattle.ms_graph.specs.Components.{Reaches}
use Rattle.ms_graph.specs.Stages.{stage_of, is_new, new_count}
use Rattle.ms_graph.specs.State.{State}
use Rattle.ms_graph.specs.Search.{node_at, entered, ArePlaced, AreRising, HasRoom, AreReaching, AreNumbered, IsFollowed, IsClosedUpTo, Stands}
use Rattle.ms_graph.proofs.Lists.{rising_push}
use Rattle.ms_graph.proofs.Standing.{open_not_new, open_not_closed, same_place, followed_not_new, up_to_not_new, followed_fewer, stands_keep}
use Rattle.ms_graph.proofs.Walks.{reaches_self, reaches_between}

pub stage_other : (s : State) (a b : ℕ) → (b ≡ a → ⊥) → stage_of (entered s a).stages b ≡ stage_of s.stages b
stage_other s a b differs = get_or-set_other s.stages a b (Open (length s.stack)) New differs

pub stage_same : (s : State) (a b : ℕ) → a < length s.stages → b ≡ a → stage_of (entered s a).stages b ≡ Open (length s.stack)
stage_same s a b inside same =
    ap (λ (x : ℕ). stage_of (entered s a).stages x) same ∙ get_or-set_same s.stages a (Open (length s.stack)) New inside

pub stage_kept : (s : State) (a b : ℕ) → stage_of s.stages a ≡ New → (stage_of s.stages b ≡ New → ⊥) → stage_of (entered s a).stages b ≡ stage_of s.stages b
stage_kept s a b new entered_before =
    stage_other s a b (λ same. entered_before (ap (λ (x : ℕ). stage_of s.stages x) same ∙ new))

at_old : (s : State) (a p : ℕ) → p < length s.stack → node_at (entered s a) p ≡ node_at s p
at_old s a p lt = get_or_append_left s.stack (a ∷ []) 0 p lt

at_new : (s : State) (a p : ℕ) → p ≡ length s.stack → node_at (entered s a) p ≡ a
at_new s a p at = get_or_push s.stack a 0 p (sym at)

-- the last place of the longer stack
last_place : (s : State) (a p : ℕ) → p < length (entered s a).stack → length s.stack ≤ p → p ≡ length s.stack
last_place s a p lt le = let len = length-append s.stack (a ∷ []) in omega (arith, len, lt, le)

pub placed_entered : (s : State) (a : ℕ) → ArePlaced s → a < length s.stages → stage_of s.stages a ≡ New → ArePlaced (entered s a)
placed_entered s a placed inside new = record {
  of_place = λ p lt. elim (cases_lt p (length s.stack)) [
    | inl less ↦
        let is = placed.of_place p less in
        let kept = stage_kept s a (node_at s p) new (λ e. open_not_new p (sym is ∙ e)) in
        subst (λ x. stage_of (entered s a).stages x ≡ Open p) (sym (at_old s a p less)) (kept ∙ is)
    | inr more ↦
        let at = last_place s a p lt more in
        stage_same s a (node_at (entered s a) p) inside (at_new s a p at) ∙ ap (λ (x : ℕ). Open x) (sym at)
  ];
  of_node = λ b p is. elim (cases_eq b a) [
    | inl same ↦
        let at : p ≡ length s.stack = same_place p (length s.stack) (sym is ∙ stage_same s a b inside same) in
        let len = length-append s.stack (a ∷ []) in
        record { within = omega (arith, len, at); node = at_new s a p at ∙ sym same }
    | inr differs ↦
        let old = placed.of_node b p (sym (stage_other s a b differs) ∙ is) in
        let lt = old.within in
        let len = length-append s.stack (a ∷ []) in
        record { within = omega (arith, len, lt); node = at_old s a p lt ∙ old.node }
  ];
}

pub rising_entered : (s : State) (a : ℕ) → AreRising s → AreRising (entered s a)
rising_entered s a rising =
    let n = length s.stack in
    let len = length-append s.stack (a ∷ []) in
    record {
      path = rising_push s.path n rising.path rising.within;
      segments = rising_push s.segments n rising.segments (λ b c. rising.within b (rising.starts b c));
      within = λ p c. elim (Contains-push_cases s.path n p c) [
        | inl old ↦ let lt = rising.within p old in omega (arith, len, lt)
        | inr last ↦ omega (arith, len, last)
      ];
      starts = λ p c. elim (Contains-push_cases s.segments n p c) [
        | inl old ↦ Contains-append_left s.path (n ∷ []) p (rising.starts p old)
        | inr last ↦ subst (λ x. Contains (s.path ++ n ∷ []) x) last (Contains-push s.path n)
      ];
      first = λ _. elim (cases_lt 0 n) [
        | inl some ↦ Contains-append_left s.segments (n ∷ []) 0 (rising.first some)
        | inr none ↦ let at : n ≡ 0 = omega (arith, none) in subst (λ x. Contains (s.segments ++ n ∷ []) x) at (Contains-push s.segments n)
      ];
    }

-- one new node less
pub new_count-entered : (s : State) (a : ℕ) → a < length s.stages → stage_of s.stages a ≡ New → new_count (entered s a).stages + 1 ≡ new_count s.stages
new_count-entered s a inside new =
    let weight : Stage → ℕ = λ x. cond (is_new x) 1 0 in
    let sums = sum_by-set weight s.stages a (Open (length s.stack)) New inside in
    let one : weight (stage_of s.stages a) ≡ 1 = ap weight new in
    omega (arith, sums, one)

pub room_entered : (s : State) (a : ℕ) → HasRoom s → a < length s.stages → stage_of s.stages a ≡ New → HasRoom (entered s a)
room_entered s a room inside new =
    let fits = room.fits in
    let few = room.few in
    let len = length-append s.stack (a ∷ []) in
    let same = length-set s.stages a (Open (length s.stack)) in
    let less = new_count-entered s a inside new in
    record {
      fits = omega (arith, fits, len, same, less);
      few = omega (arith, few, same);
    }

pub reaching_entered : (edges : List Edge) (s : State) (a : ℕ) → AreReaching edges s → ((q : ℕ) → q < length s.stack → Reaches edges (node_at s q) a) → AreReaching edges (entered s a)
reaching_entered edges s a reaching near = record {
  forth = λ p q le lt. elim (cases_lt q (length s.stack)) [
    | inl q_old ↦ let p_old : p < length s.stack = omega (arith, le, q_old) in
        reaches_between edges (node_at s p) _ (node_at s q) _ (sym (at_old s a p p_old)) (sym (at_old s a q q_old)) (reaching.forth p q le q_old)
    | inr q_last ↦ let q_new = at_new s a q (last_place s a q lt q_last) in elim (cases_lt p (length s.stack)) [
      | inl p_old ↦ reaches_between edges (node_at s p) _ a _ (sym (at_old s a p p_old)) (sym q_new) (near p p_old)
      | inr p_last ↦ let p_new = at_new s a p (last_place s a p (omega (arith, le, lt)) p_last) in
          reaches_between edges a _ a _ (sym p_new) (sym q_new) (reaches_self edges a)
    ]
  ];
  back = λ p q le lt joined. elim (cases_lt q (length s.stack)) [
    | inl q_old ↦ let p_old : p < length s.stack = omega (arith, le, q_old) in
        reaches_between edges (node_at s q) _ (node_at s p) _ (sym (at_old s a q q_old)) (sym (at_old s a p p_old))
        (reaching.back p q le q_old (λ b c. joined b (Contains-append_left s.segments (length s.stack ∷ []) b c)))
    | inr q_last ↦ elim (cases_lt p (length s.stack)) [
      | inl p_old ↦ absurd (let beyond = joined (length s.stack) (Contains-push s.segments (length s.stack)) p_old in
          let at = last_place s a q lt q_last in omega (arith, beyond, at))
      | inr p_last ↦
          let q_new = at_new s a q (last_place s a q lt q_last) in
          let p_new = at_new s a p (last_place s a p (omega (arith, le, lt)) p_last) in
          reaches_between edges a _ a _ (sym q_new) (sym p_new) (reaches_self edges a)
    ]
  ];
}

closed_before : (s : State) (a b n : ℕ) → a < length s.stages → stage_of (entered s a).stages b ≡ Closed n → stage_of s.stages b ≡ Closed n
closed_before s a b n inside is = elim (cases_eq b a) [
  | inl same ↦ absurd (open_not_closed (length s.stack) n (sym (stage_same s a b inside same) ∙ is))
  | inr differs ↦ sym (stage_other s a b differs) ∙ is
]

pub numbered_entered : (edges : List Edge) (s : State) (a : ℕ) → AreNumbered edges s → a < length s.stages → AreNumbered edges (entered s a)
numbered_entered edges s a numbered inside = record {
  below = λ b n is. numbered.below b n (closed_before s a b n inside is);
  same = λ b c n is_b is_c. numbered.same b c n (closed_before s a b n inside is_b) (closed_before s a c n inside is_c);
}

pub stands_entered : (s : State) (a k link link_new from end : ℕ) → ArePlaced s → a < length s.stages → stage_of s.stages a ≡ New → (k < link → k < link_new) → Stands s k link (stage_of s.stages from) (stage_of s.stages end) → Stands (entered s a) k link_new (stage_of (entered s a).stages from) (stage_of (entered s a).stages end)
stands_entered s a k link link_new from end placed inside new left stands =
    let n = length s.stack in
    let end_old = stage_of s.stages end in
    let end_new = stage_of (entered s a).stages end in
    elim (cases_eq from a) [
      | inl same ↦
          let was : stage_of s.stages from ≡ New = ap (λ (x : ℕ). stage_of s.stages x) same ∙ new in
          let waits = subst (λ x. Stands s k link x end_old) was stands in
          subst (λ x. Stands (entered s a) k link_new x end_new) (sym (stage_same s a from inside same)) (inl (Contains-push s.path n, left waits))
      | inr differs ↦
          subst (λ x. Stands (entered s a) k link_new x end_new) (sym (stage_other s a from differs))
          (stands_keep s (entered s a) k link link_new (stage_of s.stages from) end_old end_new left
          (λ p _ _ c. Contains-append_left s.path (n ∷ []) p c)
          (λ p is followed.
          let lt = (placed.of_node from p is).within in
          subst (λ x. IsFollowed (entered s a).segments p x) (sym (stage_kept s a end new (followed_not_new s.segments p end_old followed)))
          (followed_fewer s.segments (entered s a).segments p end_old
          (λ b c. elim (Contains-push_cases s.segments n b c) [ inl old ↦ inl old | inr last ↦ inr (omega (arith, last, lt)) ]) followed))
          (λ m _ closed. subst (λ x. IsClosedUpTo m x) (sym (stage_kept s a end new (up_to_not_new m end_old closed))) closed)
          stands)
    ]
