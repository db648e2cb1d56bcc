-- The last node of the path is left.
use Rattle.std.proofs.Common.{◌≡◌, ◌-◌, ◌<◌, ◌≤◌, ℕ, List, [], ◌∷◌, ◌++◌, Some, inl, inr, length, get_or, take, drop, refl, sym, subst, ◌∙◌, ap, arith}
use Rattle.std.specs.Prelude.{Option, option_map, slice_index, slice_get}
use Rattle.std.specs.List.{All, Contains}
use Rattle.std.proofs.lemmas.Bool.{cases_lt}
use Rattle.std.proofs.lemmas.List.{get_or-take, get_or_past, get_or_push, length-append, length-take, take_rest}
use Rattle.std.proofs.lemmas.List.Elements.{Contains-get_or}
use Rattle.std.proofs.lemmas.Option.{slice_get_within, get_or_from_slice_get}
use Rattle.ms_graph.specs.declared.edge.Edge.{Edge}
use Rattle.ms_graph.specs.declared.stage.Stage.{Stage}
use Rattle.ms_graph.specs.declared.stage.Stage.TheVariants.{New, Open, Closed}
use Rattle.ms_graph.specs.Components.{Reaches}
use Rattle.ms_graph.specs.Stages.{stage_of}
use Rattle.ms_graph.specs.State.{State}
use Rattle.ms_graph.specs.Search.{last_of, node_at, current, retreated, closed, ArePlaced, AreRising, HasRoom, AreReaching, AreNumbered, IsFollowed, IsClosedUpTo, Stands}
use Rattle.ms_graph.proofs.Lists.{rising_take, contains_take, contains_cases, below_last, up_to_last}
use Rattle.ms_graph.proofs.Standing.{open_not_new, open_not_closed, closed_not_new, same_place, same_number, up_to_not_open, followed_fewer, stands_keep}
use Rattle.ms_graph.proofs.Walks.{reaches_between}
use Rattle.ms_graph.proofs.Closing.{length-numbered, numbered_cases, new_count-numbered, from_drop, in_drop}

-- the place of the path's last node
abbrev pub end_of : State → ℕ
end_of s = last_of s.path

pub end_on_path : (s : State) → 0 < length s.path → Contains s.path (end_of s)
end_on_path s some = Contains-get_or s.path (length s.path - 1) 0 (omega (arith, some))

pub end_open : (s : State) → AreRising s → 0 < length s.path → end_of s < length s.stack
end_open s rising some = rising.within (end_of s) (end_on_path s some)

pub segments_some : (s : State) → AreRising s → 0 < length s.path → 0 < length s.segments
segments_some s rising some =
    let lt = end_open s rising some in
    let first = rising.first (omega (arith, lt)) in
    let within = first.1 in
    omega (arith, within)

-- a segment that starts at the end of the path is the last
pub last_start : (s : State) → AreRising s → 0 < length s.path → Contains s.segments (end_of s) → last_of s.segments ≡ end_of s
last_start s rising some c =
    let le = up_to_last s.segments (end_of s) rising.segments c in
    let last_in = Contains-get_or s.segments (length s.segments - 1) 0 (let lt = segments_some s rising some in omega (arith, lt)) in
    let ge = up_to_last s.path (last_of s.segments) rising.path (rising.starts (last_of s.segments) last_in) in
    omega (arith, le, ge)

-- the nodes of the stack have stages
pub stack_inside : (s : State) (p : ℕ) → ArePlaced s → p < length s.stack → node_at s p < length s.stages
stack_inside s p placed lt = elim (cases_lt (node_at s p) (length s.stages)) [
  | inl less ↦ less
  | inr past ↦ absurd (open_not_new p (sym (placed.of_place p lt) ∙ get_or_past s.stages (node_at s p) New past))
]

pub drop_inside : (s : State) (place : ℕ) → ArePlaced s → (a : ℕ) → Contains (drop place s.stack) a → a < length s.stages
drop_inside s place placed a c =
    let from = from_drop place s.stack a c in
    subst (λ x. x < length s.stages) from.is (stack_inside s from.at placed from.within)

-- the path alone is shorter

pub placed_retreated : (s : State) → ArePlaced s → ArePlaced (retreated s)
placed_retreated s placed = record {
  of_place = placed.of_place;
  of_node = λ b p is. let old = placed.of_node b p is in record { within = old.within; node = old.node };
}

pub rising_retreated : (s : State) → AreRising s → (Contains s.segments (end_of s) → ⊥) → AreRising (retreated s)
rising_retreated s rising inner = record {
  path = rising_take (length s.path - 1) s.path rising.path;
  segments = rising.segments;
  within = λ p c. rising.within p (contains_take (length s.path - 1) s.path p c);
  starts = λ b c. elim (contains_cases s.path b (rising.starts b c)) [
    | inl other ↦ other
    | inr last ↦ absurd (inner (subst (λ x. Contains s.segments x) last c))
  ];
  first = rising.first;
}

pub room_retreated : (s : State) → HasRoom s → HasRoom (retreated s)
room_retreated s room = record { fits = room.fits; few = room.few }

pub reaching_retreated : (edges : List Edge) (s : State) → AreReaching edges s → AreReaching edges (retreated s)
reaching_retreated edges s reaching = record { forth = reaching.forth; back = reaching.back }

pub numbered_retreated : (edges : List Edge) (s : State) → AreNumbered edges s → AreNumbered edges (retreated s)
numbered_retreated edges s numbered = record { below = numbered.below; same = numbered.same }

-- An edge of an open node isn't left where no edge of the end of the path is.
pub waits_before : (s : State) (k from p : ℕ) (last : List ℕ) → ArePlaced s → ((i : ℕ) → i < slice_index last (node_at s (end_of s)) → ⊥) → stage_of s.stages from ≡ Open p → k < slice_index last from → Contains s.path p → Contains (retreated s).path p
waits_before s k from p last placed done is waits c = elim (contains_cases s.path p c) [
  | inl other ↦ other
  | inr at ↦ absurd (done k (subst (λ x. k < slice_index last x)
      (sym (placed.of_node from p is).node ∙ ap (λ (x : ℕ). node_at s x) at) waits))
]

pub stands_retreated : (s : State) (k from : ℕ) (end : Stage) (last : List ℕ) → ArePlaced s → ((i : ℕ) → i < slice_index last (node_at s (end_of s)) → ⊥) → Stands s k (slice_index last from) (stage_of s.stages from) end → Stands (retreated s) k (slice_index last from) (stage_of s.stages from) end
stands_retreated s k from end last placed done stands =
    stands_keep s (retreated s) k (slice_index last from) (slice_index last from) (stage_of s.stages from) end end (λ lt. lt)
    (λ p is waits c. waits_before s k from p last placed done is waits c) (λ p _ followed. followed) (λ n _ up_to. up_to) stands

-- the last segment is closed, which starts at the end of the path

abbrev pub after : State → State
after s = closed (retreated s) (end_of s)

-- a node is in the last segment and becomes closed, or keeps its stage
pub data Turns (s : State) (b : ℕ) : Type 0 where
  shut : (p : ℕ) → end_of s ≤ p → p < length s.stack → node_at s p ≡ b → stage_of (after s).stages b ≡ Closed s.count → Turns s b
  kept : ((p : ℕ) → stage_of s.stages b ≡ Open p → p < end_of s) → stage_of (after s).stages b ≡ stage_of s.stages b → Turns s b

pub turns : (s : State) (b : ℕ) → ArePlaced s → Turns s b
turns s b placed =
    let nodes = drop (end_of s) s.stack in
    elim (numbered_cases s.stages nodes s.count b (drop_inside s (end_of s) placed)) [
      | inl among ↦ let from = from_drop (end_of s) s.stack b among.0 in shut from.at from.after from.within from.is among.1
      | inr apart ↦ kept (λ p is. elim (cases_lt p (end_of s)) [
        | inl less ↦ less
        | inr more ↦ let old = placed.of_node b p is in
            absurd (apart.0 (subst (λ x. Contains nodes x) old.node (in_drop (end_of s) s.stack p more old.within)))
      ]) apart.1
    ]

open_kept : (s : State) (b p : ℕ) → ArePlaced s → stage_of (after s).stages b ≡ Open p → (stage_of s.stages b ≡ Open p) × (p < end_of s)
open_kept s b p placed is = elim (turns s b placed) [
  | shut q le lt at turned ↦ absurd (open_not_closed p s.count (sym is ∙ turned))
  | kept below same ↦ let old = sym same ∙ is in (old, below p old)
]

at_front : (s : State) (p : ℕ) → p < end_of s → node_at (after s) p ≡ node_at s p
at_front s p lt = get_or-take (end_of s) s.stack p 0 lt

pub placed_closed : (s : State) → ArePlaced s → end_of s < length s.stack → ArePlaced (after s)
placed_closed s placed inside =
    let len = length-take (end_of s) s.stack in
    record {
      of_place = λ p lt.
          let less : p < end_of s = omega (arith, len, lt) in
          let p_in : p < length s.stack = omega (arith, less, inside) in
          let was = placed.of_place p p_in in
          subst (λ x. stage_of (after s).stages x ≡ Open p) (sym (at_front s p less)) (elim (turns s (node_at s p) placed) [
            | shut q le lt_q at turned ↦ absurd (
                let q_is : stage_of s.stages (node_at s p) ≡ Open q = ap (λ (x : ℕ). stage_of s.stages x) (sym at) ∙ placed.of_place q lt_q in
                let same = same_place p q (sym was ∙ q_is) in omega (arith, same, le, less))
            | kept below same ↦ same ∙ was
          ]);
      of_node = λ b p is.
          let old = open_kept s b p placed is in
          let lt = old.1 in
          record {
            within = omega (arith, len, lt, inside);
            node = at_front s p lt ∙ (placed.of_node b p old.0).node;
          };
    }

pub rising_closed : (s : State) → AreRising s → 0 < length s.path → last_of s.segments ≡ end_of s → AreRising (after s)
rising_closed s rising some at =
    let inside = end_open s rising some in
    let len = length-take (end_of s) s.stack in
    record {
      path = rising_take (length s.path - 1) s.path rising.path;
      segments = rising_take (length s.segments - 1) s.segments rising.segments;
      within = λ p c. let lt = below_last s.path p rising.path c in omega (arith, len, lt, inside);
      starts = λ b c.
          let lt = below_last s.segments b rising.segments c in
          elim (contains_cases s.path b (rising.starts b (contains_take (length s.segments - 1) s.segments b c))) [
            | inl other ↦ other
            | inr last ↦ absurd (omega (arith, lt, at, last))
          ];
      first = λ lt. elim (contains_cases s.segments 0 (rising.first (omega (arith, inside)))) [
        | inl other ↦ other
        | inr last ↦ absurd (omega (arith, len, lt, last, at))
      ];
    }

pub room_closed : (s : State) → ArePlaced s → HasRoom s → end_of s < length s.stack → HasRoom (after s)
room_closed s placed room inside =
    let len = length-take (end_of s) s.stack in
    let same = length-numbered s.stages (drop (end_of s) s.stack) s.count in
    let fewer = new_count-numbered s.stages (drop (end_of s) s.stack) s.count (drop_inside s (end_of s) placed) in
    let fits = room.fits in
    let few = room.few in
    record {
      fits = omega (arith, len, same, fewer, fits, inside);
      few = omega (arith, same, few);
    }

pub reaching_closed : (edges : List Edge) (s : State) → AreReaching edges s → last_of s.segments ≡ end_of s → AreReaching edges (after s)
reaching_closed edges s reaching start =
    let len = length-take (end_of s) s.stack in
    record {
      forth = λ p q le lt.
          let q_lt : q < end_of s = omega (arith, len, lt) in
          let p_lt : p < end_of s = omega (arith, le, q_lt) in
          reaches_between edges (node_at s p) _ (node_at s q) _ (sym (at_front s p p_lt)) (sym (at_front s q q_lt))
          (reaching.forth p q le (omega (arith, len, lt)));
      back = λ p q le lt joined.
          let q_lt : q < end_of s = omega (arith, len, lt) in
          let p_lt : p < end_of s = omega (arith, le, q_lt) in
          reaches_between edges (node_at s q) _ (node_at s p) _ (sym (at_front s q q_lt)) (sym (at_front s p p_lt))
          (reaching.back p q le (omega (arith, len, lt)) (λ b c b_lt. elim (contains_cases s.segments b c) [
            | inl other ↦ joined b other b_lt
            | inr last ↦ omega (arith, last, start, q_lt)
          ]));
    }

-- two nodes of the last segment reach each other
segment_reaches : (edges : List Edge) (s : State) (p q : ℕ) → AreRising s → AreReaching edges s → last_of s.segments ≡ end_of s → end_of s ≤ q → p < length s.stack → q < length s.stack → Reaches edges (node_at s p) (node_at s q)
segment_reaches edges s p q rising reaching start after_q p_in q_in = elim (cases_lt p q) [
  | inl less ↦ reaching.forth p q (omega (arith, less)) q_in
  | inr more ↦ reaching.back q p more p_in (λ b c lt. absurd (let le = up_to_last s.segments b rising.segments c in omega (arith, le, lt, start, after_q)))
]

pub numbered_closed : (edges : List Edge) (s : State) → ArePlaced s → AreRising s → AreReaching edges s → AreNumbered edges s → last_of s.segments ≡ end_of s → AreNumbered edges (after s)
numbered_closed edges s placed rising reaching numbered start = record {
  below = λ b n is. elim (turns s b placed) [
    | shut p le lt at turned ↦ let same = same_number n s.count (sym is ∙ turned) in omega (arith, same)
    | kept before same ↦ let less = numbered.below b n (sym same ∙ is) in omega (arith, less)
  ];
  same = λ b c n is_b is_c. elim (turns s b placed) [
    | shut p le lt at turned ↦ elim (turns s c placed) [
      | shut q le_q lt_q at_q turned_q ↦ reaches_between edges (node_at s p) b (node_at s q) c at at_q (segment_reaches edges s p q rising reaching start le_q lt lt_q)
      | kept before same ↦ absurd (let less = numbered.below c n (sym same ∙ is_c) in let number = same_number n s.count (sym is_b ∙ turned) in omega (arith, less, number))
    ]
    | kept before same ↦ elim (turns s c placed) [
      | shut q le_q lt_q at_q turned_q ↦ absurd (let less = numbered.below b n (sym same ∙ is_b) in let number = same_number n s.count (sym is_c ∙ turned_q) in omega (arith, less, number))
      | kept before_c same_c ↦ numbered.same b c n (sym same ∙ is_b) (sym same_c ∙ is_c)
    ]
  ];
}

-- an edge that was followed from the last segment leads into it or to a closed node
up_to_closed : (segments : List ℕ) (p start count : ℕ) (end : Stage) → Contains segments start → start ≤ p → ((q : ℕ) → end ≡ Open q → q < start) → ((n : ℕ) → end ≡ Closed n → n < count) → IsFollowed segments p end → IsClosedUpTo count end
up_to_closed segments p start count New c le before less followed = followed
up_to_closed segments p start count (Open q) c le before less followed =
    let lt = before q refl in let past = followed start c lt in omega (arith, past, le)
up_to_closed segments p start count (Closed n) c le before less followed = let lt = less n refl in omega (arith, lt)

pub stands_closed : (edges : List Edge) (s : State) (k from end : ℕ) (last : List ℕ) → ArePlaced s → AreRising s → AreNumbered edges s → 0 < length s.path → last_of s.segments ≡ end_of s → ((i : ℕ) → i < slice_index last (node_at s (end_of s)) → ⊥) → Stands s k (slice_index last from) (stage_of s.stages from) (stage_of s.stages end) → Stands (after s) k (slice_index last from) (stage_of (after s).stages from) (stage_of (after s).stages end)
stands_closed edges s k from end last placed rising numbered some start done stands =
    let link = slice_index last from in
    let end_old = stage_of s.stages end in
    let end_new = stage_of (after s).stages end in
    elim (turns s from placed) [
      | shut p le lt at turned ↦
          let was : stage_of s.stages from ≡ Open p = ap (λ (x : ℕ). stage_of s.stages x) (sym at) ∙ placed.of_place p lt in
          subst (λ x. Stands (after s) k link x end_new) (sym turned)
          (elim (subst (λ x. Stands s k link x end_old) was stands) [
            | inl waits ↦
                let le_end = up_to_last s.path p rising.path waits.0 in
                let same : p ≡ end_of s = omega (arith, le, le_end) in
                absurd (done k (subst (λ x. k < slice_index last x) (sym at ∙ ap (λ (x : ℕ). node_at s x) same) waits.1))
            | inr followed ↦ elim (turns s end placed) [
              | shut q le_q lt_q at_q turned_q ↦ subst (λ x. IsClosedUpTo s.count x) (sym turned_q) (omega arith)
              | kept before same ↦ subst (λ x. IsClosedUpTo s.count x) (sym same)
                  (up_to_closed s.segments p (end_of s) s.count end_old
                  (subst (λ x. Contains s.segments x) start (Contains-get_or s.segments (length s.segments - 1) 0 (let n = segments_some s rising some in omega (arith, n))))
                  le before (λ n is. numbered.below end n is) followed)
            ]
          ])
      | kept before same ↦
          subst (λ x. Stands (after s) k link x end_new) (sym same)
          (stands_keep s (after s) k link link (stage_of s.stages from) end_old end_new (λ lt. lt)
          (λ p is waits c. waits_before s k from p last placed done is waits c)
          (λ p is followed. elim (turns s end placed) [
            | shut q le lt at turned ↦ subst (λ x. IsFollowed (after s).segments p x) (sym turned) tt
            | kept before_end same_end ↦ subst (λ x. IsFollowed (after s).segments p x) (sym same_end)
                (followed_fewer s.segments (after s).segments p end_old (λ b c. inl (contains_take (length s.segments - 1) s.segments b c)) followed)
          ])
          (λ n is up_to. elim (turns s end placed) [
            | shut q le lt at turned ↦ absurd (up_to_not_open n q end_old up_to (ap (λ (x : ℕ). stage_of s.stages x) (sym at) ∙ placed.of_place q lt))
            | kept before_end same_end ↦ subst (λ x. IsClosedUpTo n x) (sym same_end) up_to
          ])
          stands)
    ]

pub new_before : (s : State) (b : ℕ) → ArePlaced s → stage_of (after s).stages b ≡ New → stage_of s.stages b ≡ New
new_before s b placed is = elim (turns s b placed) [
  | shut p le lt at turned ↦ absurd (closed_not_new s.count (sym turned ∙ is))
  | kept before same ↦ sym same ∙ is
]

-- what the code reads of the path and the stack

pub end_read : (s : State) (path : List ℕ) (place : ℕ) → path ≡ s.path → slice_get path (length path - 1) ≡ Some place → (0 < length s.path) × (place ≡ end_of s)
end_read s path place same read =
    let here = subst (λ xs. slice_get xs (length xs - 1) ≡ Some place) same read in
    let within = slice_get_within s.path (length s.path - 1) place here in
    (omega (arith, within), sym (get_or_from_slice_get s.path (length s.path - 1) place 0 here))

pub end_popped : (s : State) (path rest : List ℕ) (place : ℕ) → path ≡ s.path → path ≡ rest ++ place ∷ [] → place ≡ end_of s
end_popped s path rest place same splits =
    let whole = sym same ∙ splits in
    let len = ap length whole ∙ length-append rest (place ∷ []) in
    sym (ap (λ (xs : List ℕ). get_or xs (length s.path - 1) 0) whole ∙ get_or_push rest place 0 (length s.path - 1) (omega (arith, len)))

pub rest_inside : (s : State) (stack : List ℕ) (stages : List Stage) (place : ℕ) → stack ≡ s.stack → stages ≡ s.stages → ArePlaced s → All (λ a. a < length stages) (take (length stack - place) (drop place stack))
rest_inside s stack stages place same same_stages placed =
    rw (take_rest stack place, same, same_stages)
    (λ k d lt. drop_inside s place placed (get_or (drop place s.stack) k d) (Contains-get_or (drop place s.stack) k d lt))

pub current_is : (s : State) (place node : ℕ) → slice_get s.path (length s.path - 1) ≡ Some place → node ≡ node_at s place → Some node ≡ current s
current_is s place node read is =
    ap (λ (x : ℕ). Some x) is ∙ sym (ap (λ (o : Option ℕ). option_map (node_at s) o) read)
