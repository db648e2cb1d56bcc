-- Ink in parts.
use Rattle.std.proofs.Common.{◌≡◌, ℕ, List, [], ◌∷◌, ◌++◌, map, refl, sym, ap, ◌∙◌, append_assoc}
use Rattle.ms_ast.specs.Ink.{Ink, blank, word, ink_words, ink_text, piece_text, each_after, side_by_side}

pub ink_text_append : (xs ys : List Ink) → ink_text (xs ++ ys) ≡ ink_text xs ++ ink_text ys
ink_text_append [] ys = refl
ink_text_append (x ∷ xs) ys = ap (λ t. piece_text x ++ t) (ink_text_append xs ys) ∙ sym (append_assoc (piece_text x) (ink_text xs) (ink_text ys))

pub ink_words_append : (xs ys : List Ink) → ink_words (xs ++ ys) ≡ ink_words xs ++ ink_words ys
ink_words_append [] ys = refl
ink_words_append (blank ∷ xs) ys = ink_words_append xs ys
ink_words_append (word w ∷ xs) ys = ap (λ ws. w ∷ ws) (ink_words_append xs ys)

-- texts with something between each two, and something before the first
abbrev pub texts_after : List ℕ → List ℕ → List (List ℕ) → List ℕ
texts_after first between [] = []
texts_after first between (t ∷ ts) = first ++ (t ++ texts_after between between ts)

module _ {A : Type 0} (between : List Ink) (ink : A → List Ink) where
  each_after_text : (xs : List A) → ink_text (each_after between (map ink xs)) ≡ texts_after (ink_text between) (ink_text between) (map (λ x. ink_text (ink x)) xs)
  each_after_text [] = refl
  each_after_text (x ∷ xs) =
      ink_text_append between (ink x ++ each_after between (map ink xs))
      ∙ ap (λ t. ink_text between ++ t) (ink_text_append (ink x) (each_after between (map ink xs)) ∙ ap (λ t. ink_text (ink x) ++ t) (each_after_text xs))

  pub side_text : (xs : List A) → ink_text (side_by_side between (map ink xs)) ≡ texts_after [] (ink_text between) (map (λ x. ink_text (ink x)) xs)
  side_text [] = refl
  side_text (x ∷ xs) = ink_text_append (ink x) (each_after between (map ink xs)) ∙ ap (λ t. ink_text (ink x) ++ t) (each_after_text xs)
