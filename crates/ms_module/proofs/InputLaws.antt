-- Inputs and their places.
use Rattle.std.proofs.Common.{◌≡◌, ◌≢◌, ◌↔◌, ◌+◌, ◌-◌, ℕ, ◌<◌, ◌≤◌, ◌⊎◌, inl, inr, Bool, true, false, not, Option, Some, None, IsTrue, List, [], ◌∷◌, ◌++◌, length, length-append, get_or, set, refl, sym, ap, ◌∙◌, subst, arith, Contains}
use Rattle.std.specs.List.{Any, AllPairs, swap_remove}
use Rattle.std.specs.Option.{MatchOption, is_some}
use Rattle.std.proofs.lemmas.List.{get_or_append_left, get_or_default, get_or-set_same, get_or-set_other, get_or-take, length-set, length-take-le}
use Rattle.ms_join.specs.declared.ground_rule.Input.{Input}
use Rattle.std.proofs.lemmas.Bool.{cases_eq, cases_lt, false≢true}
use Rattle.ms_join.specs.declared.ground_rule.GroundRule.{GroundRule}
use Rattle.ms_join.specs.Modules.{Join, IsInput, IsOutput, IsAssigned, IsReleased}
use Rattle.ms_module.proofs.Counting.{count_below}
use Rattle.ms_module.specs.Inputs.{ArePlaced, IsInputAt}

-- an input's place has it
pub placed_input : (places : List ℕ) (inputs : List Input) (a : ℕ) → ArePlaced places inputs → Any (λ i. i.atom ≡ a) inputs
    → (a < length places) × IsInputAt inputs a (get_or places a 0)
placed_input places inputs a placed (k, x, within, is, atom) =
    let same : (get_or inputs k x).atom ≡ a = ap (λ (i : Input). i.atom) is ∙ atom in
    let place : get_or places a 0 ≡ k = ap (λ n. get_or places n 0) (sym same) ∙ placed.at k x within in
    let below : (get_or inputs k x).atom < length places = placed.within k x within in
    let At : ℕ → Type 0 = λ n. IsInputAt inputs a n in (
      subst (λ n. n < length places) same below,
      subst At (sym place) (record {
        within = within;
        atom = λ d. ap (λ (i : Input). i.atom) (get_or_default inputs k d x within) ∙ same;
      }),
    )

-- each input is there once
pub once : (places : List ℕ) (inputs : List Input) → ArePlaced places inputs → AllPairs (λ i k. i.atom ≢ k.atom) inputs
once places inputs placed i j d less within same =
    let first : get_or places (get_or inputs i d).atom 0 ≡ i = placed.at i d (omega arith) in
    let second : get_or places (get_or inputs j d).atom 0 ≡ j = placed.at j d within in
    let equal : i ≡ j = sym first ∙ (ap (λ n. get_or places n 0) same ∙ second) in
    omega arith

-- an input at another place is of another atom
apart : (places : List ℕ) (inputs : List Input) (a p k : ℕ) (d : Input) → ArePlaced places inputs → IsInputAt inputs a p → k < length inputs → k ≢ p
    → (get_or inputs k d).atom ≢ a
apart places inputs a p k d placed at within other same =
    let first : get_or places (get_or inputs k d).atom 0 ≡ k = placed.at k d within in
    let second : get_or places (get_or inputs p d).atom 0 ≡ p = placed.at p d at.within in
    other (sym first ∙ (ap (λ n. get_or places n 0) (same ∙ sym (at.atom d)) ∙ second))

pub input_there : (inputs : List Input) (a p : ℕ) (x : Input) → IsInputAt inputs a p → Any (λ i. i.atom ≡ a) inputs
input_there inputs a p x at = (p, get_or inputs p x, at.within, get_or_default inputs p (get_or inputs p x) x at.within, at.atom x)

pub assigned : (places : List ℕ) (inputs new : List Input) (a p : ℕ) (x : Input) → ArePlaced places inputs → IsInputAt inputs a p
    → new ≡ set inputs p x → x.atom ≡ a
    → (i : Input) → Contains new i ↔ ((Contains inputs i × (i.atom ≢ a)) ⊎ (Any (λ k. k.atom ≡ a) inputs × (i ≡ x)))
assigned places inputs new a p x placed at is atom i = (
  λ (k, within, here).
      let short : length new ≡ length inputs = ap length is ∙ length-set inputs p x in
      let inside : k < length inputs = omega arith in
      let there : get_or (set inputs p x) k i ≡ i = ap (λ l. get_or l k i) (sym is) ∙ here in
      elim (cases_eq k p) [
        | inl same ↦
            let stored : get_or (set inputs p x) k i ≡ x = ap (λ n. get_or (set inputs p x) n i) same ∙ get_or-set_same inputs p x i at.within in
            inr (input_there inputs a p x at, sym there ∙ stored)
        | inr other ↦
            let old : get_or inputs k i ≡ i = sym (get_or-set_other inputs p k x i other) ∙ there in
            inl ((k, inside, old), λ equal. apart places inputs a p k i placed at inside other (ap (λ (y : Input). y.atom) old ∙ equal))
      ],
  λ either. elim either [
    | inl kept ↦
        let k = kept.0.0 in
        let inside : k < length inputs = kept.0.1 in
        let short : length new ≡ length inputs = ap length is ∙ length-set inputs p x in
        let other : k ≢ p = λ same. kept.1 (ap (λ (y : Input). y.atom) (sym kept.0.2 ∙ ap (λ n. get_or inputs n i) same) ∙ at.atom i) in
        (k, omega arith, ap (λ l. get_or l k i) is ∙ (get_or-set_other inputs p k x i other ∙ kept.0.2))
    | inr set_now ↦
        let short : length new ≡ length inputs = ap length is ∙ length-set inputs p x in
        let inside : p < length inputs = at.within in
        (p, omega arith, ap (λ l. get_or l p i) is ∙ (get_or-set_same inputs p x i at.within ∙ sym set_now.1))
  ],
)

pub released : (places : List ℕ) (inputs new : List Input) (a p : ℕ) → ArePlaced places inputs → IsInputAt inputs a p
    → length new + 1 ≡ length inputs
    → ((d : Input) → p + 1 < length inputs → get_or new p d ≡ get_or inputs (length inputs - 1) d)
    → ((k : ℕ) (d : Input) → k ≢ p → k + 1 < length inputs → get_or new k d ≡ get_or inputs k d)
    → (i : Input) → Contains new i ↔ (Contains inputs i × (i.atom ≢ a))
released places inputs new a p placed at short moved kept i = (
  λ (k, within, here).
      elim (cases_eq k p) [
        | inl same ↦
            let more : p + 1 < length inputs = omega arith in
            let last : get_or inputs (length inputs - 1) i ≡ i = sym (moved i more) ∙ (ap (λ n. get_or new n i) (sym same) ∙ here) in
            let inside : length inputs - 1 < length inputs = omega arith in
            let other : length inputs - 1 ≢ p = omega arith in
            ((length inputs - 1, inside, last), λ equal. apart places inputs a p (length inputs - 1) i placed at inside other (ap (λ (y : Input). y.atom) last ∙ equal))
        | inr other ↦
            let old : get_or inputs k i ≡ i = sym (kept k i other (omega arith)) ∙ here in
            let inside : k < length inputs = omega arith in
            ((k, inside, old), λ equal. apart places inputs a p k i placed at inside other (ap (λ (y : Input). y.atom) old ∙ equal))
      ],
  λ ((k, inside, is), differ).
      let other : k ≢ p = λ same. differ (ap (λ (y : Input). y.atom) (sym is ∙ ap (λ n. get_or inputs n i) same) ∙ at.atom i) in
      let low : p < length inputs = at.within in
      elim (cases_eq (k + 1) (length inputs)) [
        | inl top ↦
            let more : p + 1 < length inputs = omega arith in
            let last : length inputs - 1 ≡ k = omega arith in
            (p, omega arith, moved i more ∙ (ap (λ n. get_or inputs n i) last ∙ is))
        | inr below ↦ (k, omega arith, kept k i other (omega arith) ∙ is)
      ],
)

-- the join after an input got a value
pub assigned_join : (places : List ℕ) (rules : List GroundRule) (inputs items new : List Input) (old : Join) (a p : ℕ) (value stored : Option Bool) (now : Input)
    → record { atoms = length places; rules = rules; inputs = inputs } ≡ old → ArePlaced places inputs → IsInputAt old.inputs a p
    → items ≡ inputs → now ≡ get_or items p now → stored ≡ value → new ≡ set items p (record { atom = now.atom; value = stored })
    → IsAssigned old a value (record { atoms = length places; rules = rules; inputs = new })
assigned_join places rules inputs items new old a p value stored now is placed at taken read put made =
    let J : Join → Type 0 = λ j. IsInputAt j.inputs a p → IsAssigned j a value (record { atoms = length places; rules = rules; inputs = new }) in
    subst J is (λ here.
    let atom : now.atom ≡ a = ap (λ (i : Input). i.atom) (read ∙ ap (λ l. get_or l p now) taken) ∙ here.atom now in
    let x : Input = record { atom = now.atom; value = stored } in
    let whole : x ≡ record { atom = a; value = value } = cc in
    record {
      atoms = refl;
      rules = refl;
      inputs = assigned places inputs new a p (record { atom = a; value = value }) placed here
          (made ∙ (ap (λ l. set l p x) taken ∙ ap (λ y. set inputs p y) whole)) refl;
    }) at

-- a list after `swap_remove`
swap_short : (items : List Input) (p : ℕ) (r : Input) → p < length items → length (swap_remove items p r) + 1 ≡ length items
swap_short items p r within =
    let long : length (set items p (get_or items (length items - 1) r)) ≡ length items = length-set items p (get_or items (length items - 1) r) in
    let cut : length (swap_remove items p r) ≡ length items - 1 = length-take-le (length items - 1) (set items p (get_or items (length items - 1) r)) (omega arith) in
    omega arith

swap_moved : (items : List Input) (p : ℕ) (r d : Input) → p + 1 < length items → get_or (swap_remove items p r) p d ≡ get_or items (length items - 1) d
swap_moved items p r d less =
    get_or-take (length items - 1) (set items p (get_or items (length items - 1) r)) p d (omega arith)
    ∙ (get_or-set_same items p (get_or items (length items - 1) r) d (omega arith)
    ∙ get_or_default items (length items - 1) r d (omega arith))

swap_kept : (items : List Input) (p : ℕ) (r : Input) (k : ℕ) (d : Input) → k ≢ p → k + 1 < length items → get_or (swap_remove items p r) k d ≡ get_or items k d
swap_kept items p r k d other less =
    get_or-take (length items - 1) (set items p (get_or items (length items - 1) r)) k d (omega arith)
    ∙ get_or-set_other items p k (get_or items (length items - 1) r) d other

-- the join after an input became an output
pub released_join : (places after : List ℕ) (rules : List GroundRule) (inputs items left new : List Input) (old : Join) (a p : ℕ) (r : Input)
    → record { atoms = length places; rules = rules; inputs = inputs } ≡ old → ArePlaced places inputs → IsInputAt old.inputs a p
    → items ≡ inputs → new ≡ left → length after ≡ length places → left ≡ swap_remove items p r
    → IsReleased old a (record { atoms = length after; rules = rules; inputs = new })
released_join places after rules inputs items left new old a p r is placed at taken made same swapped =
    let J : Join → Type 0 = λ j. IsInputAt j.inputs a p → IsReleased j a (record { atoms = length after; rules = rules; inputs = new }) in
    let all : new ≡ swap_remove inputs p r = made ∙ (swapped ∙ ap (λ l. swap_remove l p r) taken) in
    let few : length new ≡ length (swap_remove inputs p r) = ap length all in
    subst J is (λ here.
    let short : length (swap_remove inputs p r) + 1 ≡ length inputs = swap_short inputs p r here.within in
    record {
      atoms = same;
      rules = refl;
      inputs = released places inputs new a p placed here (omega arith)
          (λ d less. ap (λ l. get_or l p d) all ∙ swap_moved inputs p r d less)
          (λ k d other less. ap (λ l. get_or l k d) all ∙ swap_kept inputs p r k d other less);
    }) at

-- there are no more inputs than atoms
pub inputs_few : (places : List ℕ) (inputs : List Input) → ArePlaced places inputs → length inputs ≤ length places
inputs_few places [] placed = omega arith
inputs_few places (x ∷ inputs) placed =
    count_below (length (x ∷ inputs)) (length places) (λ i. (get_or (x ∷ inputs) i x).atom) (λ i less. placed.within i x less)
    (λ i j less within. once places (x ∷ inputs) placed i j x less within)

-- the places after an input came to the others
pub placed_push : (places : List ℕ) (inputs new : List Input) (a : ℕ) (x : Input) → ArePlaced places inputs → a < length places
    → (¬ Any (λ i. i.atom ≡ a) inputs) → new ≡ inputs ++ x ∷ [] → x.atom ≡ a → ArePlaced (set places a (length inputs)) new
placed_push places inputs new a x placed below fresh is atom =
    let P : List Input → Type 0 = λ l. ArePlaced (set places a (length inputs)) l in
    let long : length (set places a (length inputs)) ≡ length places = length-set places a (length inputs) in
    let more : length (inputs ++ x ∷ []) ≡ length inputs + 1 = length-append inputs (x ∷ []) in
    subst P (sym is) (record {
      within = λ i d less. elim (cases_lt i (length inputs)) [
        | inl before ↦
            let same : get_or (inputs ++ x ∷ []) i d ≡ get_or inputs i d = get_or_append_left inputs (x ∷ []) d i before in
            let inside : (get_or inputs i d).atom < length places = placed.within i d before in
            let equal : (get_or (inputs ++ x ∷ []) i d).atom ≡ (get_or inputs i d).atom = ap (λ (y : Input). y.atom) same in
            omega arith
        | inr after ↦
            let at_end : i ≡ length inputs = omega arith in
            let same : (get_or (inputs ++ x ∷ []) i d).atom ≡ a = ap (λ (n : ℕ). (get_or (inputs ++ x ∷ []) n d).atom) at_end ∙ (ap (λ (y : Input). y.atom) (get_or-last inputs x d) ∙ atom) in
            omega arith
      ];
      at = λ i d less. elim (cases_lt i (length inputs)) [
        | inl before ↦
            let same : get_or (inputs ++ x ∷ []) i d ≡ get_or inputs i d = get_or_append_left inputs (x ∷ []) d i before in
            let other : (get_or inputs i d).atom ≢ a = λ equal. fresh (i, get_or inputs i d, before, get_or_default inputs i (get_or inputs i d) d before, equal) in
            ap (λ (y : Input). get_or (set places a (length inputs)) y.atom 0) same
            ∙ (get_or-set_other places a (get_or inputs i d).atom (length inputs) 0 other ∙ placed.at i d before)
        | inr after ↦
            let at_end : i ≡ length inputs = omega arith in
            ap (λ (n : ℕ). get_or (set places a (length inputs)) (get_or (inputs ++ x ∷ []) n d).atom 0) at_end
            ∙ (ap (λ (y : Input). get_or (set places a (length inputs)) y.atom 0) (get_or-last inputs x d)
            ∙ (ap (λ n. get_or (set places a (length inputs)) n 0) atom ∙ (get_or-set_same places a (length inputs) 0 below ∙ sym at_end)))
      ];
    })
  where
    get_or-last : (xs : List Input) (x d : Input) → get_or (xs ++ x ∷ []) (length xs) d ≡ x
    get_or-last [] x d = refl
    get_or-last (y ∷ xs) x d = get_or-last xs x d

-- an atom of the base without a place is an output
pub output_from_place : (j : Join) (a : ℕ) (place : Option ℕ) (t : Bool) → MatchOption place (¬ IsInput j a) (IsInputAt j.inputs a) → is_some place ≡ not t → a < j.atoms
    → IsTrue t ↔ IsOutput j a
output_from_place j a None true known is below = (λ so. record { within = below; no_input = known }, λ output. refl)
output_from_place j a None false known is below = absurd (false≢true is)
output_from_place j a (Some p) true known is below = absurd (false≢true (sym is))
output_from_place j a (Some p) false known is below = (
  λ so. absurd (false≢true so),
  λ output. absurd (output.no_input (input_there j.inputs a p (record { atom = 0; value = None }) known)),
)
