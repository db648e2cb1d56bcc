-- What one more thing that a loop is told does to its turns, and the laws of turns by induction on what it is told.
use Rattle.std.proofs.Common.{ℕ, ◌≡◌, ◌<◌, ◌≤◌, ◌+◌, inl, inr, zero, suc, pred, subst, List, [], ◌∷◌, ◌++◌, Some, Bool, true, false, not, ◌&&◌, IsTrue, IsSomeAnd, length, slice_get, nat_lt, refl, sym, ◌∙◌, ap, arith, length-append}
use Rattle.std.proofs.lemmas.Bool.{cases_Bool, cond-true, cond-false, and_parts, not-true, ltb-false, ltb-true, le-ltb, lt-ltb}
use Rattle.std.proofs.lemmas.List.{append-nil}
use Rattle.ms_inc.specs.declared.turn.Last.{Last}
use Rattle.ms_inc.specs.Turns.{IsMadeIn, Loop, Plan, is_made, loop_after, turn_of, turns, turns_from}

-- the next turn is made, and it is not
pub from_made : (plan : Plan) (t : ℕ) (last : Last) (told : List Last) → is_made plan t last ≡ true → turns_from plan t (last ∷ told) ≡ turn_of t ∷ turns_from plan (suc t) told
unfolding turns_from
from_made plan t last told made = cond-true (is_made plan t last) (turn_of t ∷ turns_from plan (suc t) told) [] made

pub from_unmade : (plan : Plan) (t : ℕ) (last : Last) (told : List Last) → is_made plan t last ≡ false → turns_from plan t (last ∷ told) ≡ []
unfolding turns_from
from_unmade plan t last told unmade = cond-false (is_made plan t last) (turn_of t ∷ turns_from plan (suc t) told) [] unmade

pub from_nothing : (plan : Plan) (t : ℕ) → turns_from plan t [] ≡ []
unfolding turns_from
from_nothing plan t = refl

-- no more turns are made than were asked for
pub made_at_most : (plan : Plan) (t : ℕ) (told : List Last) → length (turns_from plan t told) ≤ length told
made_at_most plan t [] = rw (from_nothing plan t) (omega arith)
made_at_most plan t (last ∷ told) = elim (cases_Bool (is_made plan t last)) [
  | inl made ↦ (let rest = made_at_most plan (suc t) told in rw (from_made plan t last told made) (omega arith))
  | inr unmade ↦ rw (from_unmade plan t last told unmade) (omega arith)
]

-- a loop that has ended makes no more turns
pub ended_from : (plan : Plan) (t : ℕ) (told more : List Last) → length (turns_from plan t told) < length told → turns_from plan t (told ++ more) ≡ turns_from plan t told
ended_from plan t [] more short = absurd (omega arith)
ended_from plan t (last ∷ told) more short = elim (cases_Bool (is_made plan t last)) [
  | inl made ↦ (
      let parts = from_made plan t last told made in
      let shorter : length (turns_from plan (suc t) told) < length told = omega (arith, ap length parts) in
      from_made plan t last (told ++ more) made ∙ ap (λ ts. turn_of t ∷ ts) (ended_from plan (suc t) told more shorter) ∙ sym parts)
  | inr unmade ↦ from_unmade plan t last (told ++ more) unmade ∙ sym (from_unmade plan t last told unmade)
]

-- where all were made that were asked for, one more is made, or none
pub more_from : (plan : Plan) (t : ℕ) (told : List Last) (last : Last) → length (turns_from plan t told) ≡ length told → turns_from plan t (told ++ last ∷ []) ≡ turns_from plan t told ++ turns_from plan (t + length told) (last ∷ [])
more_from plan t [] last all = rw (from_nothing plan t) (ap (λ n. turns_from plan n (last ∷ [])) (omega arith))
more_from plan t (first ∷ told) last all = elim (cases_Bool (is_made plan t first)) [
  | inl made ↦ (
      let parts = from_made plan t first told made in
      let same : length (turns_from plan (suc t) told) ≡ length told = omega (arith, ap length parts) in
      let count : suc t + length told ≡ t + length (first ∷ told) = omega arith in
      from_made plan t first (told ++ last ∷ []) made
      ∙ ap (λ ts. turn_of t ∷ ts) (more_from plan (suc t) told last same)
      ∙ ap (λ n. turn_of t ∷ (turns_from plan (suc t) told ++ turns_from plan n (last ∷ []))) count
      ∙ ap (λ ts. ts ++ turns_from plan (t + length (first ∷ told)) (last ∷ [])) (sym parts))
  | inr unmade ↦ (let none = ap length (from_unmade plan t first told unmade) in absurd (omega arith))
]

-- turns count up from the first one's number
pub counted_from : (plan : Plan) (t : ℕ) (told : List Last) (n : ℕ) → n < length (turns_from plan t told) → slice_get (turns_from plan t told) n ≡ Some (turn_of (t + n))
counted_from plan t [] n below = absurd (omega (arith, ap length (from_nothing plan t)))
counted_from plan t (last ∷ told) zero below = elim (cases_Bool (is_made plan t last)) [
  | inl made ↦ ap (λ ts. slice_get ts 0) (from_made plan t last told made) ∙ ap (λ k. Some (turn_of k)) (let e : t ≡ t + 0 = omega arith in e)
  | inr unmade ↦ absurd (omega (arith, ap length (from_unmade plan t last told unmade)))
]
counted_from plan t (last ∷ told) (suc n) below = elim (cases_Bool (is_made plan t last)) [
  | inl made ↦ (
      let parts = from_made plan t last told made in
      let rest : n < length (turns_from plan (suc t) told) = omega (arith, ap length parts) in
      let count : suc t + n ≡ t + suc n = omega arith in
      ap (λ ts. slice_get ts (suc n)) parts ∙ counted_from plan (suc t) told n rest ∙ ap (λ k. Some (turn_of k)) count)
  | inr unmade ↦ absurd (omega (arith, ap length (from_unmade plan t last told unmade)))
]

-- turn t + k is made, where the turns from t on are told this
abbrev pub IsMadeFrom : Plan → ℕ → List Last → ℕ → Type 0
IsMadeFrom plan t told k = IsSomeAnd (slice_get told k) (λ last. IsTrue (is_made plan (t + k) last))

-- each turn up to one that is made was wanted
pub wanted_from : (plan : Plan) (t : ℕ) (told : List Last) (n k : ℕ) → n < length (turns_from plan t told) → k ≤ n → IsMadeFrom plan t told k
wanted_from plan t [] n k below within = absurd (omega (arith, ap length (from_nothing plan t)))
wanted_from plan t (last ∷ told) n zero below within = elim (cases_Bool (is_made plan t last)) [
  | inl made ↦ (let e : t ≡ t + 0 = omega arith in ap (λ s. is_made plan s last) (sym e) ∙ made)
  | inr unmade ↦ absurd (omega (arith, ap length (from_unmade plan t last told unmade)))
]
wanted_from plan t (last ∷ told) n (suc k) below within = elim (cases_Bool (is_made plan t last)) [
  | inl made ↦ (
      let rest : pred n < length (turns_from plan (suc t) told) = omega (arith, ap length (from_made plan t last told made)) in
      let count : suc t + k ≡ t + suc k = omega arith in
      subst (λ s. IsSomeAnd (slice_get told k) (λ other. IsTrue (is_made plan s other))) count (wanted_from plan (suc t) told (pred n) k rest (omega arith)))
  | inr unmade ↦ absurd (omega (arith, ap length (from_unmade plan t last told unmade)))
]

-- and a turn is made where it and all before it are wanted
pub made_from : (plan : Plan) (t : ℕ) (told : List Last) (n : ℕ) → ((k : ℕ) → k ≤ n → IsMadeFrom plan t told k) → n < length (turns_from plan t told)
made_from plan t [] n wanted = absurd (wanted 0 (omega arith))
made_from plan t (last ∷ told) zero wanted =
    let e : t + 0 ≡ t = omega arith in
    let here : is_made plan t last ≡ true = ap (λ s. is_made plan s last) (sym e) ∙ wanted 0 (omega arith) in
    omega (arith, ap length (from_made plan t last told here))
made_from plan t (last ∷ told) (suc n) wanted =
    let e : t + 0 ≡ t = omega arith in
    let here : is_made plan t last ≡ true = ap (λ s. is_made plan s last) (sym e) ∙ wanted 0 (omega arith) in
    let rest : n < length (turns_from plan (suc t) told) =
    made_from plan (suc t) told n (λ k within.
    let count : t + suc k ≡ suc t + k = omega arith in
    subst (λ s. IsSomeAnd (slice_get told k) (λ other. IsTrue (is_made plan s other))) count (wanted (suc k) (omega arith))) in
    omega (arith, ap length (from_made plan t last told here))

more_at_start : (plan : Plan) (told : List Last) (last : Last) → length (turns plan told) ≡ length told → turns plan (told ++ last ∷ []) ≡ turns plan told ++ turns_from plan (length told) (last ∷ [])
more_at_start plan told last all =
    let count : 0 + length told ≡ length told = omega arith in
    more_from plan 0 told last all ∙ ap (λ n. turns_from plan 0 told ++ turns_from plan n (last ∷ [])) count

pub counted : (plan : Plan) (told : List Last) (t : ℕ) → t < length (turns plan told) → slice_get (turns plan told) t ≡ Some (turn_of t)
counted plan told t below = let count : 0 + t ≡ t = omega arith in counted_from plan 0 told t below ∙ ap (λ n. Some (turn_of n)) count

pub wanted_before : (plan : Plan) (told : List Last) (t k : ℕ) → t < length (turns plan told) → k ≤ t → IsMadeIn plan told k
wanted_before plan told t k below within =
    let count : 0 + k ≡ k = omega arith in
    subst (λ n. IsSomeAnd (slice_get told k) (λ last. IsTrue (is_made plan n last))) count (wanted_from plan 0 told t k below within)

pub made_when_wanted : (plan : Plan) (told : List Last) (t : ℕ) → ((k : ℕ) → k ≤ t → IsMadeIn plan told k) → t < length (turns plan told)
made_when_wanted plan told t wanted =
    made_from plan 0 told t (λ k within.
    let count : k ≡ 0 + k = omega arith in
    subst (λ n. IsSomeAnd (slice_get told k) (λ last. IsTrue (is_made plan n last))) count (wanted k within))

abbrev loop_at : Plan → ℕ → Bool → Loop
loop_at plan made over = record { plan = plan; made = made; over = over }

loops_equal : (plan : Plan) (made made' : ℕ) (over over' : Bool) → made ≡ made' → over ≡ over' → loop_at plan made over ≡ loop_at plan made' over'
loops_equal plan made made' over over' same_made same_over = cc

-- the turns stay where none is made
stays : (plan : Plan) (made : ℕ) (over : Bool) (told : List Last) (last : Last) → (not over && is_made plan made last) ≡ false → made ≡ length (turns plan told) → over ≡ nat_lt (length (turns plan told)) (length told) → turns plan (told ++ last ∷ []) ≡ turns plan told
stays plan made over told last ends same_made same_over = elim (cases_Bool over) [
  | inl ended ↦ ended_from plan 0 told (last ∷ []) (ltb-true (length (turns plan told)) (length told) (sym same_over ∙ ended))
  | inr open_still ↦ (
      let least : length told ≤ length (turns plan told) = ltb-false (length (turns plan told)) (length told) (sym same_over ∙ open_still) in
      let most = made_at_most plan 0 told in
      let all : length (turns plan told) ≡ length told = omega arith in
      let place : length told ≡ made = omega arith in
      let unmade : is_made plan made last ≡ false = ap (λ b. not b && is_made plan made last) (sym open_still) ∙ ends in
      let here : is_made plan (length told) last ≡ false = ap (λ n. is_made plan n last) place ∙ unmade in
      more_at_start plan told last all ∙ ap (λ ts. turns plan told ++ ts) (from_unmade plan (length told) last [] here) ∙ append-nil (turns plan told))
]

-- What a loop makes of what it is told now, where it stands as one that was told this.
pub loop_goes_on : (plan : Plan) (made : ℕ) (over : Bool) (told : List Last) (last : Last) → (not over && is_made plan made last) ≡ true → loop_at plan made over ≡ loop_after plan told → (loop_at plan (made + 1) over ≡ loop_after plan (told ++ last ∷ [])) × (turns plan (told ++ last ∷ []) ≡ turns plan told ++ turn_of made ∷ [])
loop_goes_on plan made over told last goes stands =
    let parts = and_parts (not over) (is_made plan made last) goes in
    let open_still : over ≡ false = not-true over parts.0 in
    let same_over : over ≡ nat_lt (length (turns plan told)) (length told) = ap (λ l. l.over) stands in
    let same_made : made ≡ length (turns plan told) = ap (λ l. l.made) stands in
    let most = made_at_most plan 0 told in
    let least : length told ≤ length (turns plan told) = ltb-false (length (turns plan told)) (length told) (sym same_over ∙ open_still) in
    let all : length (turns plan told) ≡ length told = omega arith in
    let place : length told ≡ made = omega arith in
    let here : is_made plan (length told) last ≡ true = ap (λ n. is_made plan n last) place ∙ parts.1 in
    let one : turns_from plan (length told) (last ∷ []) ≡ turn_of made ∷ [] =
    from_made plan (length told) last [] here ∙ ap (λ ts. turn_of (length told) ∷ ts) (from_nothing plan (suc (length told))) ∙ ap (λ n. turn_of n ∷ []) place in
    let grown : turns plan (told ++ last ∷ []) ≡ turns plan told ++ turn_of made ∷ [] = more_at_start plan told last all ∙ ap (λ ts. turns plan told ++ ts) one in
    let counted : length (turns plan (told ++ last ∷ [])) ≡ made + 1 = omega (arith, ap length grown, length-append (turns plan told) (turn_of made ∷ [])) in
    let asked : length (told ++ last ∷ []) ≤ length (turns plan (told ++ last ∷ [])) = omega (arith, length-append told (last ∷ [])) in
    let open_then : over ≡ nat_lt (length (turns plan (told ++ last ∷ []))) (length (told ++ last ∷ [])) = open_still ∙ sym (le-ltb (length (turns plan (told ++ last ∷ []))) (length (told ++ last ∷ [])) asked) in
    (loops_equal plan (made + 1) (length (turns plan (told ++ last ∷ []))) over (nat_lt (length (turns plan (told ++ last ∷ []))) (length (told ++ last ∷ []))) (sym counted) open_then, grown)

pub loop_ends : (plan : Plan) (made : ℕ) (over : Bool) (told : List Last) (last : Last) → (not over && is_made plan made last) ≡ false → loop_at plan made over ≡ loop_after plan told → (loop_at plan made true ≡ loop_after plan (told ++ last ∷ [])) × (turns plan (told ++ last ∷ []) ≡ turns plan told ++ [])
loop_ends plan made over told last ends stands =
    let same_over : over ≡ nat_lt (length (turns plan told)) (length told) = ap (λ l. l.over) stands in
    let same_made : made ≡ length (turns plan told) = ap (λ l. l.made) stands in
    let kept = stays plan made over told last ends same_made same_over in
    let most = made_at_most plan 0 told in
    let longer : length (turns plan (told ++ last ∷ [])) < length (told ++ last ∷ []) = omega (arith, ap length kept, length-append told (last ∷ [])) in
    let over_then = lt-ltb (length (turns plan (told ++ last ∷ []))) (length (told ++ last ∷ [])) longer in
    (loops_equal plan made (length (turns plan (told ++ last ∷ []))) true (nat_lt (length (turns plan (told ++ last ∷ []))) (length (told ++ last ∷ []))) (same_made ∙ ap length (sym kept)) (sym over_then), kept ∙ sym (append-nil (turns plan told)))
