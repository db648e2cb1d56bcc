-- The sets of a kind up to a place, as the search goes on.
use Rattle.std.proofs.Common.{◌≡◌, ◌≢◌, ◌+◌, ◌-◌, ◌^◌, ◌<◌, ◌≤◌, ℕ, List, [], ◌∷◌, ◌++◌, Option, Some, None, All, AllPairs, Contains, length, subst, ap, ⊎_elim, arith}
use Rattle.std.specs.Bool.{⊤}
use Rattle.std.specs.Option.{IfSome}
use Rattle.std.proofs.lemmas.Bool.{cases_lt}
use Rattle.std.proofs.lemmas.List.{length_push}
use Rattle.std.proofs.lemmas.Option.{MatchOption-at_some}
use Rattle.std.proofs.lemmas.List.Elements.{All-push, All-weaker, All-nil, Contains-push, Contains-append_left}
use Rattle.std.proofs.lemmas.List.Quantifiers.{all_pairs_push}
use Rattle.ms_lits.specs.declared.note.Ending.TheVariants.{Complete}
use Rattle.ms_join.specs.AnswerSets.{IsAtomSet}
use Rattle.ms_solving.specs.Listing.{AreAllAnswers, EndsAs}
use Rattle.ms_answers.specs.Subsets.{place_of, tried_before, KeepsWhere}
use Rattle.ms_answers.proofs.Places.{place_below, same_from_place}

-- each set of the kind is over the base
abbrev pub AreOver : ℕ → (List ℕ → Type 0) → Type 0
AreOver n Is = (set : List ℕ) → Is set → IsAtomSet n set

-- The list has each set of the kind before the place, once.
pub record IsListed (n : ℕ) (Is : List ℕ → Type 0) (place : ℕ) (sets : List (List ℕ)) : Type 0 where
  pub each : All Is sets
  pub before : All (λ set. place_of n set < place) sets
  pub once : AllPairs (λ set other. set ≢ other) sets
  pub found : (set : List ℕ) → Is set → place_of n set < place → Contains sets set

pub IsListed-none : (n : ℕ) (Is : List ℕ → Type 0) → IsListed n Is 0 []
IsListed-none n Is = record {
  each = All-nil Is;
  before = All-nil (λ set. place_of n set < 0);
  once = λ i j d ordered short. absurd (omega arith);
  found = λ set answers early. absurd (omega arith);
}

IsListed-kept : (n : ℕ) (Is : List ℕ → Type 0) → AreOver n Is → (set : List ℕ) (sets : List (List ℕ)) → IsListed n Is (place_of n set) sets → Is set → IsListed n Is (place_of n set + 1) (sets ++ set ∷ [])
IsListed-kept n Is over set sets listed answers = record {
  each = All-push Is sets set listed.each answers;
  before = All-push (λ s. place_of n s < place_of n set + 1) sets set (All-weaker (λ s. place_of n s < place_of n set) (λ s. place_of n s < place_of n set + 1) (λ s h. omega arith) sets listed.before) (omega arith);
  once = all_pairs_push (λ s other. s ≢ other) sets set listed.once (λ k d short same. omega (arith, listed.before k d short, ap (place_of n) same));
  found = λ other other_answers early.
      ⊎_elim (λ (earlier : place_of n other < place_of n set). Contains-append_left sets (set ∷ []) other (listed.found other other_answers earlier))
      (λ (here : place_of n set ≤ place_of n other).
      let same : set ≡ other = same_from_place n set other (over set answers) (over other other_answers) (omega arith) in
      subst (λ s. Contains (sets ++ set ∷ []) s) same (Contains-push sets set))
      (cases_lt (place_of n other) (place_of n set));
}

IsListed-passed : (n : ℕ) (Is : List ℕ → Type 0) → AreOver n Is → (set : List ℕ) (sets : List (List ℕ)) → IsListed n Is (place_of n set) sets → IsAtomSet n set → ¬ (Is set) → IsListed n Is (place_of n set + 1) sets
IsListed-passed n Is over set sets listed over_base fails = record {
  each = listed.each;
  before = All-weaker (λ s. place_of n s < place_of n set) (λ s. place_of n s < place_of n set + 1) (λ s h. omega arith) sets listed.before;
  once = listed.once;
  found = λ other answers early.
      ⊎_elim (λ (earlier : place_of n other < place_of n set). listed.found other answers earlier)
      (λ (here : place_of n set ≤ place_of n other).
      let same : other ≡ set = same_from_place n other set (over other answers) over_base (omega arith) in
      absurd (fails (subst Is same answers)))
      (cases_lt (place_of n other) (place_of n set));
}

-- one more set is tried
IsListed-more : (n : ℕ) (Is : List ℕ → Type 0) → AreOver n Is → (place : ℕ) (set : List ℕ) (old new : List (List ℕ)) → IsListed n Is (place_of n set) old → IsAtomSet n set → KeepsWhere (Is set) set old new → place ≡ place_of n set + 1 → IsListed n Is place new
IsListed-more n Is over place set old new listed over_base keeps next =
    let here : IsListed n Is (place_of n set + 1) new =
    ⊎_elim (λ kept. rw kept.1 (IsListed-kept n Is over set old listed kept.0))
    (λ passed. rw passed.1 (IsListed-passed n Is over set old listed over_base passed.0))
    keeps in
    rw next here

-- each set has its place before the end
AreAllAnswers-from_listed : (n : ℕ) (Is : List ℕ → Type 0) → AreOver n Is → (sets : List (List ℕ)) → IsListed n Is (2 ^ n) sets → AreAllAnswers Is sets
AreAllAnswers-from_listed n Is over sets listed set answers =
    listed.found set answers (place_below n set (over set answers))

-- a step of the search: `candidate` is tried, and `next` comes after it
pub record IsStep (n : ℕ) (candidate next : Option (List ℕ)) (set : List ℕ) : Type 0 where
  pub is_candidate : candidate ≡ Some set
  pub over_base : IfSome candidate (IsAtomSet n)
  pub next_place : tried_before n next ≡ place_of n set + 1

step_over_base : (n : ℕ) (candidate next : Option (List ℕ)) (set : List ℕ) → IsStep n candidate next set → IsAtomSet n set
step_over_base n candidate next set step =
    MatchOption-at_some ⊤ (IsAtomSet n) set step.is_candidate step.over_base

pub IsListed-step : (n : ℕ) (Is : List ℕ → Type 0) → AreOver n Is → (candidate next : Option (List ℕ)) (set : List ℕ) (old new : List (List ℕ)) → IsStep n candidate next set → IsListed n Is (tried_before n candidate) old → KeepsWhere (Is set) set old new → IsListed n Is (tried_before n next) new
IsListed-step n Is over candidate next set old new step listed keeps =
    let listed_here : IsListed n Is (place_of n set) old = subst (λ c. IsListed n Is (tried_before n c) old) step.is_candidate listed in
    IsListed-more n Is over (tried_before n next) set old new listed_here (step_over_base n candidate next set step) keeps step.next_place

pub fewer_left : (n : ℕ) (candidate next : Option (List ℕ)) (set : List ℕ) → IsStep n candidate next set → 2 ^ n - tried_before n next < 2 ^ n - tried_before n candidate
fewer_left n candidate next set step =
    omega (arith, step.next_place, place_below n set (step_over_base n candidate next set step), ap (tried_before n) step.is_candidate)

pub length_keeps : (Holds : Type 0) (set : List ℕ) (old new : List (List ℕ)) → KeepsWhere Holds set old new → length new ≤ length old + 1
length_keeps Holds set old new keeps =
    ⊎_elim (λ kept. omega (arith, ap length kept.1, length_push old set)) (λ passed. omega (arith, ap length passed.1)) keeps

pub EndsAs-complete : (n asked : ℕ) (Is : List ℕ → Type 0) → AreOver n Is → (candidate : Option (List ℕ)) (sets : List (List ℕ)) → candidate ≡ None → IsListed n Is (tried_before n candidate) sets → length sets < asked → EndsAs Complete asked Is sets
EndsAs-complete n asked Is over candidate sets none_left listed few =
    (few, AreAllAnswers-from_listed n Is over sets (subst (λ c. IsListed n Is (tried_before n c) sets) none_left listed))
