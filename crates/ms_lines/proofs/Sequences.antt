-- One after another, up to the end of the words.
use Rattle.std.proofs.Common.{◌≡◌, ℕ, List, [], ◌∷◌, ◌++◌, length, drop, Option, Some, None, true, false, eqb, refl, sym, ap, ◌∙◌, subst, append_assoc, arith, eqb-true}
use Rattle.std.proofs.lemmas.Bool.{true≢false}
use Rattle.ms_text.specs.declared.token.Token.{Token}
use Rattle.ms_grammar.specs.Words.{Word, words_of}
use Rattle.ms_grammar.specs.Reading.{EndsValue}
use Rattle.ms_call.specs.Commands.{AreJoined, AreSome}
use Rattle.ms_lines.specs.Finding.{Finds, IsOnly, IsFront}
use Rattle.ms_lines.proofs.Fronts.{words_of-drop, front_rest}

pub cons-not-nil : {X : Type 0} (x : X) (xs : List X) → x ∷ xs ≡ [] → ⊥
cons-not-nil x xs e = cc

pub no_words : (first rest : List Word) → [] ≡ first ++ rest → first ≡ []
no_words [] rest e = refl
no_words (w ∷ ws) rest e = absurd (cons-not-nil w (ws ++ rest) (sym e))

pub no_tokens : (text : List ℕ) (ts : List Token) → words_of text ts ≡ [] → ts ≡ []
no_tokens text [] h = refl
no_tokens text (t ∷ ts) h = absurd (cons-not-nil _ (words_of text ts) h)

module _ {V : Type 0} (Is : List Word → V → Type 0) where
  -- These stand before the rest: what all of the words are, is they and what the rest is.
  pub record GoesOn (all : List Word) (before : List V) (rest : List Word) : Type 0 where
    pub sound : (us : List V) → AreSome Is rest us → AreSome Is all (before ++ us)
    pub only : (vs : List V) → AreSome Is all vs → (us : List V) × (vs ≡ before ++ us) × AreSome Is rest us

  pub goes_from_start : (all : List Word) → GoesOn all [] all
  goes_from_start all = record { sound = λ us h. h; only = λ vs h. (vs, refl, h) }

  module _ (starts : (first rest : List Word) (v : V) → Is first v → EndsValue (first ++ rest)) (some : (v : V) → Is [] v → ⊥) where
    joined_ends : (ws : List Word) (vs : List V) → AreJoined Is ws vs → EndsValue ws
    joined_ends ws [] e = subst EndsValue (sym e) tt
    joined_ends ws (v ∷ vs) j = subst EndsValue (sym j.2) (starts j.0 j.1 v j.3)

    joined_nil : (us : List V) → AreJoined Is [] us → us ≡ []
    joined_nil [] j = refl
    joined_nil (u ∷ us) j = absurd (some u (subst (λ ws. Is ws u) (no_words j.0 j.1 j.2) j.3))

    abbrev front_of : (rest : List Word) (u : V) (us : List V) → (j : AreJoined Is rest (u ∷ us)) → IsFront Is rest (u, length j.0)
    front_of rest u us j = record { first = j.0; rest = j.1; words_are = j.2; count_is = refl; is = j.3; ends = joined_ends j.1 us j.4 }

    -- what stands in front is the first of them
    first_is : (rest : List Word) (f : V × ℕ) → IsOnly (IsFront Is rest) f → (vs : List V) → AreSome Is rest vs → (us : List V) × (vs ≡ f.0 ∷ us) × AreJoined Is (drop f.1 rest) us
    first_is rest f found [] h = absurd (h.0 refl)
    first_is rest f found (u ∷ us) h =
        let j = h.1 in
        let same : (u, length j.0) ≡ f = found.1 (u, length j.0) (front_of rest u us j) in
        let after : j.1 ≡ drop f.1 rest = sym (front_rest (front_of rest u us j)) ∙ ap (λ g. drop g.1 rest) same in
        (us, ap (λ g. g.0 ∷ us) same, subst (λ ws. AreJoined Is ws us) after j.4)

    with_front : (rest : List Word) (f : V × ℕ) → IsFront Is rest f → (us : List V) → AreJoined Is (drop f.1 rest) us → AreSome Is rest (f.0 ∷ us)
    with_front rest f front us j = (cons-not-nil f.0 us, (front.first, front.rest, front.words_are, front.is, subst (λ ws. AreJoined Is ws us) (front_rest front) j))

    module _ (all : List Word) (before : List V) (rest : List Word) (goes : GoesOn all before rest) where
      more_words : (f : V × ℕ) → IsOnly (IsFront Is rest) f → (drop f.1 rest ≡ [] → ⊥) → GoesOn all (before ++ f.0 ∷ []) (drop f.1 rest)
      more_words f found more = record {
        sound = λ us h. subst (AreSome Is all) (sym (append_assoc before (f.0 ∷ []) us)) (goes.sound (f.0 ∷ us) (with_front rest f found.0 us h.1));
        only = λ vs h.
            let g = goes.only vs h in
            let i = first_is rest f found g.0 g.2 in
            (i.0, g.1 ∙ ap (λ us. before ++ us) i.1 ∙ sym (append_assoc before (f.0 ∷ []) i.0), (λ none. more (subst (AreJoined Is (drop f.1 rest)) none i.2), i.2));
      }

      last_words : (f : V × ℕ) → IsOnly (IsFront Is rest) f → drop f.1 rest ≡ [] → IsOnly (AreSome Is all) (before ++ f.0 ∷ [])
      last_words f found last = (
        goes.sound (f.0 ∷ []) (with_front rest f found.0 [] last),
        λ vs h.
            let g = goes.only vs h in
            let i = first_is rest f found g.0 g.2 in
            let none : i.0 ≡ [] = joined_nil i.0 (subst (λ ws. AreJoined Is ws i.0) last i.2) in
            g.1 ∙ ap (λ us. before ++ us) (i.1 ∙ ap (λ us. f.0 ∷ us) none),
      )

      none_from : ((f : V × ℕ) → IsFront Is rest f → ⊥) → (us : List V) → AreSome Is rest us → ⊥
      none_from none [] h = h.0 refl
      none_from none (u ∷ us) h = none (u, length h.1.0) (front_of rest u us h.1)

      pub no_words_more : ((f : V × ℕ) → IsFront Is rest f → ⊥) → (vs : List V) → AreSome Is all vs → ⊥
      no_words_more none vs h = let g = goes.only vs h in none_from none g.0 g.2

    -- the same over tokens
    module _ (text : List ℕ) (all : List Word) (before : List V) (rest after : List Token) (goes : GoesOn all before (words_of text rest)) (f : V × ℕ) (found : IsOnly (IsFront Is (words_of text rest)) f) (e : after ≡ drop f.1 rest) where
      rest_words : drop f.1 (words_of text rest) ≡ words_of text after
      rest_words = words_of-drop text f.1 rest ∙ ap (words_of text) (sym e)

      pub goes_more : (after ≡ [] → ⊥) → GoesOn all (before ++ f.0 ∷ []) (words_of text after)
      goes_more more = subst (GoesOn all (before ++ f.0 ∷ [])) rest_words (more_words all before (words_of text rest) goes f found (λ h. more (no_tokens text after (sym rest_words ∙ h))))

      pub goes_last : after ≡ [] → IsOnly (AreSome Is all) (before ++ f.0 ∷ [])
      goes_last last = last_words all before (words_of text rest) goes f found (rest_words ∙ ap (words_of text) last)

  module _ (starts : (first rest : List Word) (v : V) → Is first v → EndsValue (first ++ rest)) (some : (v : V) → Is [] v → ⊥) (text : List ℕ) (all : List Word) (before : List V) (rest : List Token) (goes : GoesOn all before (words_of text rest)) (found : Option (V × ℕ)) (finds : Finds (IsFront Is (words_of text rest)) found) where
    -- nothing was found, or the last, or one before others
    pub seq_none : found ≡ None → (vs : List V) → AreSome Is all vs → ⊥
    seq_none e = no_words_more starts some all before (words_of text rest) goes (subst (Finds (IsFront Is (words_of text rest))) e finds)

    module _ (f : V × ℕ) (e : found ≡ Some f) (next : List V) (pushed : next ≡ before ++ f.0 ∷ []) (after : List Token) (a : after ≡ drop f.1 rest) where
      only_front : IsOnly (IsFront Is (words_of text rest)) f
      only_front = subst (Finds (IsFront Is (words_of text rest))) e finds

      empty_list : (ts : List Token) → length ts ≡ 0 → ts ≡ []
      empty_list [] h = refl
      empty_list (t ∷ ts) h = absurd (omega arith)

      pub seq_last : eqb (length after) 0 ≡ true → IsOnly (AreSome Is all) next
      seq_last h = subst (IsOnly (AreSome Is all)) (sym pushed) (goes_last starts some text all before rest after goes f only_front a (empty_list after (eqb-true (length after) 0 h)))

      pub seq_more : eqb (length after) 0 ≡ false → GoesOn all next (words_of text after)
      seq_more h = subst (λ vs. GoesOn all vs (words_of text after)) (sym pushed) (goes_more starts some text all before rest after goes f only_front a (λ none. true≢false (ap (λ ts. eqb (length ts) 0) (sym none) ∙ h)))
