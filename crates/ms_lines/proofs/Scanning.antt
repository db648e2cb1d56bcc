-- How far bytes were looked at.
use Rattle.std.proofs.Common.{◌≡◌, ℕ, zero, suc, ◌+◌, ◌-◌, ◌<◌, ◌≤◌, Bool, true, false, List, [], ◌∷◌, ◌++◌, length, take, take_while, drop, refl, sym, ap, ◌∙◌, subst, arith, length-append, one-add}
use Rattle.std.specs.List.{prefix_len}
use Rattle.std.specs.Bool.{then_some}
use Rattle.std.specs.Prelude.{Option, MatchOption, ltb}
use Rattle.std.proofs.Common.{ltb-true, ltb-false}
use Rattle.std.proofs.lemmas.List.{take_rest}
use Rattle.std.proofs.lemmas.List.Folds.{length-prefix_len}
use Rattle.std.proofs.lemmas.List.{drop-append-le, length-drop, drop-drop}
use Rattle.ms_text.specs.Tokens.{is_in_line}
use Rattle.ms_lines.specs.Buffers.{IsKept, IsLineLen, HasNoLine}

module _ (test : ℕ → Bool) where
  abbrev front_len : List ℕ → ℕ
  front_len xs = prefix_len test xs

  past_by : (x : ℕ) (xs : List ℕ) (k : ℕ) → (k ≤ front_len xs → front_len xs ≡ k + front_len (drop k xs)) → (b : Bool) → test x ≡ b → suc k ≤ front_len (x ∷ xs) → front_len (x ∷ xs) ≡ suc k + front_len (drop k xs)
  past_by x xs k h true e le = let here : front_len (x ∷ xs) ≡ suc (front_len xs) = rw (e, one-add) refl in omega (arith, here, h (omega (arith, here, le)))
  past_by x xs k h false e le = let here : front_len (x ∷ xs) ≡ 0 = rw e refl in absurd (omega (arith, here, le))

  -- bytes that pass the test stand before the others that do
  pub front_past : (xs : List ℕ) (k : ℕ) → k ≤ front_len xs → front_len xs ≡ k + front_len (drop k xs)
  front_past xs zero le = omega arith
  front_past [] (suc k) le = absurd (omega arith)
  front_past (x ∷ xs) (suc k) le = past_by x xs k (front_past xs k) (test x) refl le

  more_by : (x : ℕ) (xs ys : List ℕ) → front_len xs ≤ front_len (xs ++ ys) → (b : Bool) → test x ≡ b → front_len (x ∷ xs) ≤ front_len (x ∷ (xs ++ ys))
  more_by x xs ys h true e = rw e (omega (arith, h))
  more_by x xs ys h false e = rw e (omega arith)

  pub front_more : (xs ys : List ℕ) → front_len xs ≤ front_len (xs ++ ys)
  front_more [] ys = omega arith
  front_more (x ∷ xs) ys = more_by x xs ys (front_more xs ys) (test x) refl

module _ (bytes : List ℕ) (gone seen : ℕ) (kept : IsKept bytes gone seen) where
  abbrev left : List ℕ
  left = drop gone bytes

  seen_place : drop (seen - gone) left ≡ drop seen bytes
  seen_place = drop-drop (seen - gone) gone bytes ∙ ap (λ n. drop n bytes) (let h : gone + (seen - gone) ≡ seen = omega (arith, kept.after) in h)

  whole_front : (more : ℕ) → more ≡ prefix_len is_in_line (drop seen bytes) → prefix_len is_in_line left ≡ seen + more - gone
  whole_front more e =
      let past = front_past is_in_line left (seen - gone) kept.before in
      let same : prefix_len is_in_line (drop (seen - gone) left) ≡ more = ap (prefix_len is_in_line) seen_place ∙ sym e in
      omega (arith, past, same, kept.after)

  -- further bytes are looked at
  pub kept_further : (more : ℕ) → more ≡ prefix_len is_in_line (drop seen bytes) → more ≤ length (drop seen bytes) → IsKept bytes gone (seen + more)
  kept_further more e inside =
      record {
        after = omega (arith, kept.after);
        within = omega (arith, kept.within, inside, length-drop seen bytes);
        before = omega (arith, whole_front more e);
      }

  -- further bytes come
  pub kept_pushed : (piece : List ℕ) (all : List ℕ) → all ≡ bytes ++ piece → IsKept all gone seen
  kept_pushed piece all e =
      let total : length all ≡ length bytes + length piece = ap length e ∙ length-append bytes piece in
      let longer : drop gone all ≡ left ++ piece = ap (drop gone) e ∙ drop-append-le gone bytes piece (omega (arith, kept.after, kept.within)) in
      let front : prefix_len is_in_line (drop gone all) ≡ prefix_len is_in_line (left ++ piece) = ap (prefix_len is_in_line) longer in
      record { after = kept.after; within = omega (arith, kept.within, total); before = omega (arith, front, front_more is_in_line left piece, kept.before) }

  module _ (now : List ℕ) (view : left ≡ now) (more : ℕ) (e : more ≡ prefix_len is_in_line (drop seen bytes)) (inside : more ≤ length (drop seen bytes)) where
    front_now : prefix_len is_in_line now ≡ seen + more - gone
    front_now = ap (prefix_len is_in_line) (sym view) ∙ whole_front more e

    length_now : length now ≡ length bytes - gone
    length_now = ap length (sym view) ∙ length-drop gone bytes

    pub line_is : seen + more < length bytes → IsLineLen now (seen + more - gone)
    line_is h = record { len_is = sym front_now; within = omega (arith, h, length_now, kept.after) }

    pub no_line : length bytes ≤ seen + more → HasNoLine now
    no_line h = omega (arith, h, front_now, length_now, kept.within, inside, length-drop seen bytes)

  -- how many more bytes are before a line end
  pub more_seen : (text : List ℕ) → text ≡ bytes → (more : ℕ) → more ≡ length (take_while is_in_line (take (length text - seen) (drop seen text))) → more ≡ prefix_len is_in_line (drop seen bytes)
  more_seen text same more e =
      e ∙ ap (λ xs. length (take_while is_in_line xs)) (take_rest text seen ∙ ap (drop seen) same) ∙ length-prefix_len is_in_line (drop seen bytes)

  pub more_inside : (text : List ℕ) → text ≡ bytes → (more : ℕ) → more ≤ length (take (length text - seen) (drop seen text)) → more ≤ length (drop seen bytes)
  more_inside text same more h = subst (λ xs. more ≤ length xs) (take_rest text seen ∙ ap (drop seen) same) h

  module _ (now : List ℕ) (view : left ≡ now) (more : ℕ) (e : more ≡ prefix_len is_in_line (drop seen bytes)) (inside : more ≤ length (drop seen bytes)) where
    found_by : (b : Bool) → ltb (seen + more) (length bytes) ≡ b → MatchOption (then_some b (seen + more - gone)) (HasNoLine now) (IsLineLen now)
    found_by true h = line_is now view more e inside (ltb-true (seen + more) (length bytes) h)
    found_by false h = no_line now view more e inside (ltb-false (seen + more) (length bytes) h)

    pub line_found : (len : ℕ) → len ≡ length bytes → (found : Option ℕ) → found ≡ then_some (ltb (seen + more) len) (seen + more - gone) → MatchOption found (HasNoLine now) (IsLineLen now)
    line_found len same found f = rw (f, same) (found_by (ltb (seen + more) (length bytes)) refl)
