-- Numbers and sleepers of new atoms, one after the other.
use Rattle.std.proofs.Common.{◌≡◌, ◌≢◌, ◌∙◌, ◌⊎◌, ◌+◌, ◌<◌, ◌≤◌, ℕ, List, [], ◌∷◌, ◌++◌, Option, Some, None, length, set, refl, sym, ap, subst, inl, inr, arith, append_assoc}
use Rattle.std.specs.Prelude.{slice_get}
use Rattle.std.specs.List.{Contains}
use Rattle.std.proofs.lemmas.Bool.{cases_eq}
use Rattle.std.proofs.lemmas.List.{append-nil, get_or-set_other, get_or-set_same, length-set, length_push}
use Rattle.std.proofs.lemmas.List.Elements.{Contains-append_cases}
use Rattle.std.proofs.lemmas.Option.{get_or_from_slice_get, slice_get-get_or, slice_get_cases, slice_get_within}
use Rattle.ms_nogood.specs.Store.{Adds, Store, slot_at}
use Rattle.ms_join.specs.Things.{Thing}
use Rattle.ms_join.specs.Things.Thing.{atom}
use Rattle.ms_complete.specs.Rules.{holds}
use Rattle.ms_complete.proofs.Lists.{at_left, member_cases, member_none, none_is_some}
use Rattle.ms_solver.specs.Extending.{AddsPlaces, PutsToSleep, SleepsAt}
use Rattle.ms_problem.specs.Numbered.{AreNumbers}
use Rattle.ms_solver.proofs.Lists.{push_cases}
use Rattle.ms_solver.proofs.Stores.{sleeps_more, sleeps_none}

-- one number more
pub numbers_more : (things : List Thing) (count number : ℕ) (atoms : List ℕ) → AreNumbers things count atoms → slice_get things number ≡ Some (atom count)
    → AreNumbers things (count + 1) (atoms ++ number ∷ [])
numbers_more things count number atoms are at = record {
  counted = length_push atoms number ∙ ap (λ (n : ℕ). n + 1) are.counted;
  each = λ a n found. elim (push_cases atoms number n a found) [
    | inl before ↦ are.each a n before
    | inr last ↦ subst (λ (k : ℕ). slice_get things k ≡ Some (atom a)) last.1 (subst (λ (b : ℕ). slice_get things number ≡ Some (atom b)) (sym (last.0 ∙ are.counted)) at)
  ];
}

-- the numbers stay where things come last
pub numbers_stay : (things more all : List Thing) (count : ℕ) (atoms : List ℕ) → all ≡ things ++ more → AreNumbers things count atoms → AreNumbers all count atoms
numbers_stay things more all count atoms is are = record {
  counted = are.counted;
  each = λ a number found. subst (λ (ts : List Thing). slice_get ts number ≡ Some (atom a)) (sym is) (at_left things more number (atom a) (are.each a number found));
}

pub places_none : (sleepers : List (Option ℕ)) (count : ℕ) → count ≡ 0 → AddsPlaces count sleepers sleepers
places_none sleepers count none = record { more = []; places = sym (append-nil sleepers); many = sym none }

pub places_more : (count : ℕ) (old mid new : List (Option ℕ)) → AddsPlaces count old mid → new ≡ mid ++ None ∷ [] → AddsPlaces (count + 1) old new
places_more count old mid new adds is = record {
  more = adds.more ++ None ∷ [];
  places = is ∙ (ap (λ (xs : List (Option ℕ)). xs ++ None ∷ []) adds.places ∙ append_assoc old adds.more (None ∷ []));
  many = length_push adds.more None ∙ ap (λ (n : ℕ). n + 1) adds.many;
}

-- ---- the sleepers

set_same : (xs : List (Option ℕ)) (i : ℕ) (x : Option ℕ) → i < length xs → slice_get (set xs i x) i ≡ Some x
set_same xs i x within =
    let len : length (set xs i x) ≡ length xs = length-set xs i x in
    let inside : i < length (set xs i x) = omega (arith, within, len) in
    slice_get-get_or (set xs i x) i x inside ∙ ap Some (get_or-set_same xs i x x within)

set_other : (xs : List (Option ℕ)) (i k : ℕ) (x y : Option ℕ) → k ≢ i → slice_get xs k ≡ Some y → slice_get (set xs i x) k ≡ Some y
set_other xs i k x y differ at =
    let within : k < length xs = slice_get_within xs k y at in
    let len : length (set xs i x) ≡ length xs = length-set xs i x in
    let inside : k < length (set xs i x) = omega (arith, within, len) in
    slice_get-get_or (set xs i x) k y inside ∙ ap Some (get_or-set_other xs i k x y differ ∙ get_or_from_slice_get xs k y y at)

pub sleep_none : (first : ℕ) (externals atoms : List ℕ) (store : Store) (sleepers : List (Option ℕ)) → externals ≡ [] → PutsToSleep first externals atoms store sleepers store sleepers
sleep_none first externals atoms store sleepers none = record {
  store = sleeps_none store;
  places = refl;
  others = λ a less. refl;
  each = λ a least has. absurd (member_none a (subst (λ (xs : List ℕ). Contains xs a) none has));
}

-- an atom that is no new one
pub sleep_past : (first e : ℕ) (externals more atoms : List ℕ) (old mid : Store) (sleepers widened : List (Option ℕ)) → PutsToSleep first externals atoms old sleepers mid widened
    → more ≡ externals ++ e ∷ [] → e < first → PutsToSleep first more atoms old sleepers mid widened
sleep_past first e externals more atoms old mid sleepers widened puts is past = record {
  store = puts.store;
  places = puts.places;
  others = puts.others;
  each = λ a least has. elim (Contains-append_cases externals (e ∷ []) a (subst (λ (xs : List ℕ). Contains xs a) is has)) [
    | inl before ↦ puts.each a least before
    | inr last ↦ elim (member_cases e a [] last) [
      | inl same ↦ absurd (omega (arith, past, least, same))
      | inr none ↦ absurd (member_none a none)
    ]
  ];
}

-- a new one
pub sleep_more : (first e number key : ℕ) (externals more atoms : List ℕ) (old mid new : Store) (sleepers widened after : List (Option ℕ)) → PutsToSleep first externals atoms old sleepers mid widened
    → more ≡ externals ++ e ∷ [] → first ≤ e → e < length widened → slice_get atoms e ≡ Some number
    → Adds mid new (record { lits = holds number ∷ []; kind = None }) key → after ≡ set widened e (Some key) → PutsToSleep first more atoms old sleepers new after
sleep_more first e number key externals more atoms old mid new sleepers widened after puts is fresh within numbered adds set_is = record {
  store = sleeps_more old mid new (record { lits = holds number ∷ []; kind = None }) key puts.store refl adds;
  places = ap length set_is ∙ (length-set widened e (Some key) ∙ puts.places);
  others = λ a less. others a less;
  each = λ a least has. elim (cases_eq a e) [
    | inl same ↦ here a same
    | inr differ ↦ elim (Contains-append_cases externals (e ∷ []) a (subst (λ (xs : List ℕ). Contains xs a) is has)) [
      | inl before ↦ there a differ (puts.each a least before)
      | inr last ↦ elim (member_cases e a [] last) [
        | inl same ↦ here a (sym same)
        | inr none ↦ absurd (member_none a none)
      ]
    ]
  ];
}
  where
    others : (a : ℕ) → a < first → slice_get after a ≡ slice_get sleepers a
    others a less =
        let differ : a ≢ e = λ same. omega (arith, less, fresh, same) in
        elim (cases_get a) [
          | inl at ↦ subst (λ (xs : List (Option ℕ)). slice_get xs a ≡ slice_get sleepers a) (sym set_is) (set_other widened e a (Some key) at.0 differ at.1 ∙ (sym at.1 ∙ puts.others a less))
          | inr past ↦ absurd (omega (arith, less, fresh, within, past))
        ]
      where
        cases_get : (a : ℕ) → ((y : Option ℕ) × (slice_get widened a ≡ Some y)) ⊎ (length widened ≤ a)
        cases_get a = elim (slice_get_cases widened a).1 [
          | inl at ↦ inl (at.0, at.2)
          | inr past ↦ inr past.0
        ]

    here : (a : ℕ) → a ≡ e → SleepsAt atoms new after a
    here a same = subst (λ (b : ℕ). SleepsAt atoms new after b) (sym same) (record {
      key = key;
      at = subst (λ (xs : List (Option ℕ)). slice_get xs e ≡ Some (Some key)) (sym set_is) (set_same widened e (Some key) within);
      number = number;
      numbered = numbered;
      asleep = adds.added;
    })

    there : (a : ℕ) → a ≢ e → SleepsAt atoms mid widened a → SleepsAt atoms new after a
    there a differ s = record {
      key = s.key;
      at = subst (λ (xs : List (Option ℕ)). slice_get xs a ≡ Some (Some s.key)) (sym set_is) (set_other widened e a (Some key) (Some s.key) differ s.at);
      number = s.number;
      numbered = s.numbered;
      asleep = adds.others s.key (λ same. absurd (none_is_some (record { lits = holds s.number ∷ []; kind = None }) (sym (ap (slot_at mid) same ∙ adds.was_free) ∙ s.asleep))) ∙ s.asleep;
    }
