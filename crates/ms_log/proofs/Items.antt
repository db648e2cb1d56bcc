-- Items that are read one after the other.
use Rattle.std.proofs.Common.{◌≡◌, ◌≢◌, ℕ, ◌<◌, List, [], ◌∷◌, ◌++◌, length, All, refl, sym, ap, ◌∙◌, arith, append_assoc, append-nil}
use Rattle.std.specs.List.{AllByRecursion}
use Rattle.std.proofs.lemmas.List.Concat.{flat_map-append}
use Rattle.std.proofs.lemmas.List.Elements.{All-push, recursion_from_All}
use Rattle.ms_log.specs.NoteText.{items_text}
use Rattle.ms_log.specs.Reading.{IsWord, EndsWord}
use Rattle.ms_log.proofs.Words.{Bare, same_word}

-- These items were read, and what is left has the others of each list whose text is the whole.
pub record AreRead {X : Type 0} (text : X → List ℕ) (Fits : X → Type 0) (whole rest : List ℕ) (items : List X) : Type 0 where
  pub found : whole ≡ items_text text items ++ rest
  pub fits : All Fits items
  pub only : (xs : List X) → AllByRecursion Fits xs → whole ≡ items_text text xs → (more : List X) × AllByRecursion Fits more × (rest ≡ items_text text more)

pub ends_items : {X : Type 0} (text : X → List ℕ) (xs : List X) → EndsWord (items_text text xs)
ends_items text [] = tt
ends_items text (x ∷ xs) = refl

module _ {X : Type 0} (text : X → List ℕ) (Fits : X → Type 0) where
  pub none_read : (whole : List ℕ) → AreRead text Fits whole whole []
  none_read whole = record { found = refl; fits = λ k d h. absurd (omega arith); only = λ xs h e. (xs, h, e) }

  module _ (bare : (x : X) → Fits x → Bare (text x)) where
    -- the first of the items that are left
    record HasFirst (word after : List ℕ) (xs : List X) : Type 0 where
      first : X
      others : List X
      fits : Fits first
      others_fit : AllByRecursion Fits others
      is : word ≡ text first
      left : after ≡ items_text text others

    first_of : (xs : List X) → AllByRecursion Fits xs → (word after : List ℕ) → IsWord word → EndsWord after → 32 ∷ (word ++ after) ≡ items_text text xs → HasFirst word after xs
    first_of [] h word after w ends e = absurd (cc)
    first_of (x ∷ xs) h word after w ends e =
        let tails : word ++ after ≡ text x ++ items_text text xs = cc in
        let parts = same_word word (text x) after (items_text text xs) (recursion_from_All (λ b. b ≢ 32) word w) (bare x h.0) ends (ends_items text xs) tails in
        record { first = x; others = xs; fits = h.0; others_fit = h.1; is = parts.0; left = parts.1 }

    pub one_read : (whole rest word after : List ℕ) (items : List X) (x : X) → AreRead text Fits whole rest items → rest ≡ 32 ∷ (word ++ after) → IsWord word → EndsWord after → Fits x → word ≡ text x
        → AreRead text Fits whole after (items ++ x ∷ [])
    one_read whole rest word after items x before is w ends fits spelled = record {
      found = before.found
          ∙ ap (λ xs. items_text text items ++ xs) (is ∙ ap (λ xs. 32 ∷ (xs ++ after)) spelled)
          ∙ sym (ap (λ xs. xs ++ after) (flat_map-append (λ y. 32 ∷ text y) items (x ∷ []) ∙ ap (λ xs. items_text text items ++ 32 ∷ xs) (append-nil (text x)))
          ∙ append_assoc (items_text text items) (32 ∷ text x) after);
      fits = All-push Fits items x before.fits fits;
      only = λ xs h e.
          let left = before.only xs h e in
          let first = first_of left.0 left.1 word after w ends (sym is ∙ left.2) in
          (first.others, first.others_fit, first.left);
    }

    -- what isn't an item is in no list of items
    pub no_item : (whole rest word after : List ℕ) (items : List X) → AreRead text Fits whole rest items → rest ≡ 32 ∷ (word ++ after) → IsWord word → EndsWord after → ((x : X) → Fits x → word ≢ text x)
        → (xs : List X) → All Fits xs → whole ≢ items_text text xs
    no_item whole rest word after items before is w ends none xs h e =
        let left = before.only xs (recursion_from_All Fits xs h) e in
        let first = first_of left.0 left.1 word after w ends (sym is ∙ left.2) in
        none first.first first.fits first.is

    -- two lists of items with one text are one
    pub one_list : ((x y : X) → Fits x → Fits y → text x ≡ text y → x ≡ y) → (xs ys : List X) → AllByRecursion Fits xs → AllByRecursion Fits ys → items_text text xs ≡ items_text text ys → xs ≡ ys
    one_list one [] [] hx hy e = refl
    one_list one [] (y ∷ ys) hx hy e = absurd (cc)
    one_list one (x ∷ xs) [] hx hy e = absurd (cc)
    one_list one (x ∷ xs) (y ∷ ys) hx hy e =
        let tails : text x ++ items_text text xs ≡ text y ++ items_text text ys = cc in
        let parts = same_word (text x) (text y) (items_text text xs) (items_text text ys) (bare x hx.0) (bare y hy.0) (ends_items text xs) (ends_items text ys) tails in
        let heads : x ≡ y = one x y hx.0 hy.0 parts.0 in
        let others : xs ≡ ys = one_list one xs ys hx.1 hy.1 parts.1 in
        cc

  -- nor is what isn't behind a space
  no_space : (xs : List X) (rest : List ℕ) → 0 < length rest → ((word after : List ℕ) → EndsWord after → rest ≢ 32 ∷ (word ++ after)) → rest ≢ items_text text xs
  no_space [] rest some none e = absurd (omega (arith, ap length e))
  no_space (x ∷ xs) rest some none e = none (text x) (items_text text xs) (ends_items text xs) e

  pub no_word : (whole rest : List ℕ) (items : List X) → AreRead text Fits whole rest items → 0 < length rest → ((word after : List ℕ) → EndsWord after → rest ≢ 32 ∷ (word ++ after))
      → (xs : List X) → All Fits xs → whole ≢ items_text text xs
  no_word whole rest items before some none xs h e =
      let left = before.only xs (recursion_from_All Fits xs h) e in
      no_space left.0 rest some none left.2

  pub all_read : (whole rest : List ℕ) (items : List X) → AreRead text Fits whole rest items → rest ≡ [] → All Fits items × (whole ≡ items_text text items)
  all_read whole rest items read done = (read.fits, read.found ∙ ap (λ xs. items_text text items ++ xs) done ∙ append-nil (items_text text items))
