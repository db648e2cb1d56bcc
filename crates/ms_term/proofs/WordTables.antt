-- The strings of bytes after one was looked up or added.
use Rattle.std.proofs.Common.{◌≡◌, ℕ, ◌+◌, ◌<◌, ◌⊎◌, inl, inr, Bool, true, false, ◌||◌, Vec, Global, List, [], ◌∷◌, ◌++◌, Option, None, Some, is_some, MatchOption, slice_get, get_or, nat_eq, zero, suc, length, refl, sym, ap, ◌∙◌, subst, arith, length-append, if◌then◌else◌}
use Rattle.std.specs.Cmp.Lexicographic.{pointwise}
use Rattle.std.specs.List.{list_any, position}
use Rattle.std.proofs.lemmas.Slice.Eq.{bytes_eq-Decides}
use Rattle.std.proofs.lemmas.Bool.{cases_lt}
use Rattle.std.proofs.lemmas.List.{get_or_append_left, get_or-map}
use Rattle.std.proofs.lemmas.List.Quantifiers.{position-Some}
use Rattle.std.proofs.lemmas.Option.{slice_get_within, get_or_from_slice_get}
use Rattle.indexmap.specs.IndexSet.{insert_key}
use Rattle.ms_term.specs.Words.{bytes_of, word_at, AreOnce, HasNoWord, IsWordOf, Keeps}

abbrev Bytes : Type 0
Bytes = Vec ℕ Global

abbrev vec_eq : Bytes → Bytes → Bool
vec_eq v w = pointwise nat_eq v.items w.items

length-bytes_of : (vs : List Bytes) → length (bytes_of vs) ≡ length vs
length-bytes_of [] = refl
length-bytes_of (v ∷ vs) = omega (arith, length-bytes_of vs)

-- the string of a place
pub word_of : (vs : List Bytes) (i : ℕ) (v : Bytes) → i < length vs → word_at (bytes_of vs) i ≡ (get_or vs i v).items
word_of vs i v h = get_or-map (λ w. w.items) vs i v [] h

pub found_word : (vs : List Bytes) (bytes : List ℕ) (i : ℕ) (v : Bytes) → position (λ w. pointwise nat_eq bytes w.items) vs ≡ Some i → IsWordOf (bytes_of vs) bytes i
found_word vs bytes i v e =
    let at = position-Some (λ w. pointwise nat_eq bytes w.items) vs i v e in
    let same : bytes ≡ (get_or vs i v).items = (bytes_eq-Decides bytes (get_or vs i v).items).0 at.1 in
    record {
      within = omega (arith, at.0, length-bytes_of vs);
      names = word_of vs i v at.0 ∙ sym same;
    }

or_parts : (x y : Bool) → (x || y) ≡ false → (x ≡ false) × (y ≡ false)
or_parts true y e = cc
or_parts false y e = (refl, e)

pub absent_word : (vs : List Bytes) (bytes : List ℕ) → list_any (λ w. pointwise nat_eq bytes w.items) vs ≡ false → HasNoWord (bytes_of vs) bytes
absent_word [] bytes none i h e = absurd (omega arith)
absent_word (v ∷ vs) bytes none zero h e =
    let equal : pointwise nat_eq bytes v.items ≡ true = (bytes_eq-Decides bytes v.items).1 (sym e) in
    let apart = (or_parts (pointwise nat_eq bytes v.items) (list_any (λ w. pointwise nat_eq bytes w.items) vs) none).0 in
    cc
absent_word (v ∷ vs) bytes none (suc i) h e =
    absent_word vs bytes (or_parts (pointwise nat_eq bytes v.items) (list_any (λ w. pointwise nat_eq bytes w.items) vs) none).1 i (omega arith) e

-- strings with a new one at their end
pub once-push : (ws : List (List ℕ)) (bytes : List ℕ) → AreOnce ws → HasNoWord ws bytes → AreOnce (ws ++ bytes ∷ [])
once-push ws bytes old fresh i j hi hj e =
    let li : i < length ws + 1 = omega (arith, length-append ws (bytes ∷ [])) in
    let lj : j < length ws + 1 = omega (arith, length-append ws (bytes ∷ [])) in
    elim (cases_lt i (length ws)) [
      | inl bi ↦ elim (cases_lt j (length ws)) [
        | inl bj ↦ old i j bi bj (sym (word_at-more ws bytes i bi) ∙ (e ∙ word_at-more ws bytes j bj))
        | inr aj ↦
            let ej : j ≡ length ws = omega arith in
            absurd (fresh i bi (sym (word_at-more ws bytes i bi) ∙ (e ∙ (ap (λ k. word_at (ws ++ bytes ∷ []) k) ej ∙ word_at-last ws bytes))))
      ]
      | inr ai ↦ elim (cases_lt j (length ws)) [
        | inl bj ↦
            let ei : i ≡ length ws = omega arith in
            absurd (fresh j bj (sym (word_at-more ws bytes j bj) ∙ (sym e ∙ (ap (λ k. word_at (ws ++ bytes ∷ []) k) ei ∙ word_at-last ws bytes))))
        | inr aj ↦ omega arith
      ]
    ]
  where
    word_at-more : (vs : List (List ℕ)) (b : List ℕ) (k : ℕ) → k < length vs → word_at (vs ++ b ∷ []) k ≡ word_at vs k
    word_at-more vs b k h = get_or_append_left vs (b ∷ []) [] k h

    word_at-last : (vs : List (List ℕ)) (b : List ℕ) → word_at (vs ++ b ∷ []) (length vs) ≡ b
    word_at-last [] b = refl
    word_at-last (v ∷ vs) b = word_at-last vs b

bytes_of-push : (vs : List Bytes) (v : Bytes) → bytes_of (vs ++ v ∷ []) ≡ bytes_of vs ++ v.items ∷ []
bytes_of-push [] v = refl
bytes_of-push (w ∷ vs) v = ap (λ ws. w.items ∷ ws) (bytes_of-push vs v)

by_test : (b : Bool) (old : List Bytes) (v : Bytes) → list_any (vec_eq v) old ≡ b → AreOnce (bytes_of old)
    → AreOnce (bytes_of (if b then old else (old ++ v ∷ []))) × ((bytes_of (if b then old else (old ++ v ∷ [])) ≡ bytes_of old) ⊎ (bytes_of (if b then old else (old ++ v ∷ [])) ≡ bytes_of old ++ v.items ∷ []))
by_test true old v e once = (once, inl refl)
by_test false old v e once = (subst AreOnce (sym (bytes_of-push old v)) (once-push (bytes_of old) v.items once (absent_word old v.items e)), inr (bytes_of-push old v))

-- what an insertion into the set leaves
pub kept_word : (old new : List Bytes) (v k : Bytes) (i : ℕ) → new ≡ insert_key vec_eq old v → AreOnce (bytes_of old) → slice_get new i ≡ Some k → vec_eq v k ≡ true → Keeps (bytes_of old) (bytes_of new) v.items i
kept_word old new v k i is once stored equal =
    let P : List Bytes → Type 0 = λ vs. AreOnce (bytes_of vs) × ((bytes_of vs ≡ bytes_of old) ⊎ (bytes_of vs ≡ bytes_of old ++ v.items ∷ [])) in
    let after = subst P (sym is) (by_test (list_any (vec_eq v) old) old v refl once) in
    let within = slice_get_within new i k stored in
    let same : v.items ≡ k.items = (bytes_eq-Decides v.items k.items).0 equal in
    record {
      is = record {
        within = omega (arith, within, length-bytes_of new);
        names = word_of new i k within ∙ (ap (λ w. w.items) (get_or_from_slice_get new i k k stored) ∙ sym same);
      };
      once = after.0;
      grows = after.1;
    }

-- a string that is there
pub there_word : (ws : List (List ℕ)) (bytes : List ℕ) (i : ℕ) → AreOnce ws → IsWordOf ws bytes i → Keeps ws ws bytes i
there_word ws bytes i once is = record { is = is; once = once; grows = inl refl }

pub looked_up : (vs : List Bytes) (bytes : List ℕ) (r : Option ℕ) → r ≡ position (λ w. pointwise nat_eq bytes w.items) vs
    → is_some r ≡ list_any (λ w. pointwise nat_eq bytes w.items) vs → MatchOption r (HasNoWord (bytes_of vs) bytes) (IsWordOf (bytes_of vs) bytes)
looked_up vs bytes None e f = absent_word vs bytes (sym f)
looked_up [] bytes (Some i) e f = cc
looked_up (v ∷ vs) bytes (Some i) e f = found_word (v ∷ vs) bytes i v (sym e)
