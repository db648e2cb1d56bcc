-- What is at the front of words.
use Rattle.std.proofs.Common.{◌≡◌, ℕ, ◌+◌, ◌<◌, ◌≤◌, List, [], ◌∷◌, length, drop, Option, Some, None, Result, Ok, Err, IfOk, sym, ap, ◌∙◌, arith, length-append, drop_at}
use Rattle.std.proofs.lemmas.List.{length-map, drop-map}
use Rattle.ms_text.specs.declared.token.Token.{Token}
use Rattle.ms_grammar.specs.Words.{Word, word_of, words_of}
use Rattle.ms_lines.specs.Finding.{Finds, FitWithin, IsFront}

pub length-words_of : (text : List ℕ) (tokens : List Token) → length (words_of text tokens) ≡ length tokens
length-words_of text tokens = length-map tokens (word_of text)

pub words_of-drop : (text : List ℕ) (n : ℕ) (tokens : List Token) → drop n (words_of text tokens) ≡ words_of text (drop n tokens)
words_of-drop text n tokens = drop-map (word_of text) n tokens

module _ {V : Type 0} {Is : List Word → V → Type 0} {ws : List Word} {f : V × ℕ} (front : IsFront Is ws f) where
  -- the words behind the front
  pub front_rest : drop f.1 ws ≡ front.rest
  front_rest = ap (drop f.1) front.words_are ∙ drop_at front.first front.rest f.1 (sym front.count_is)

  pub front_fits : f.1 ≤ length ws
  front_fits = let total : length ws ≡ length front.first + length front.rest = ap length front.words_are ∙ length-append front.first front.rest in omega (arith, total, front.count_is)

module _ {V : Type 0} (Is : List Word → V → Type 0) (some : (v : V) → Is [] v → ⊥) where
  has_word : (first : List Word) (v : V) → Is first v → 0 < length first
  has_word [] v is = absurd (some v is)
  has_word (w ∷ ws) v is = omega arith

  front_some : (ws : List Word) (f : V × ℕ) → IsFront Is ws f → 0 < f.1
  front_some ws f front = omega (arith, has_word front.first f.0 front.is, front.count_is)

  pub front_within : (text : List ℕ) (tokens : List Token) (found : Option (V × ℕ)) → Finds (IsFront Is (words_of text tokens)) found → FitWithin (length tokens) found
  front_within text tokens None h = tt
  front_within text tokens (Some f) h = (front_some (words_of text tokens) f h.0, omega (arith, front_fits h.0, length-words_of text tokens))

  pub fits_if_ok : {E : Type 0} (text : List ℕ) (tokens : List Token) (r : Result (Option (V × ℕ)) E) → IfOk r (Finds (IsFront Is (words_of text tokens))) → IfOk r (FitWithin (length tokens))
  fits_if_ok text tokens (Ok found) h = front_within text tokens found h
  fits_if_ok text tokens (Err e) h = tt
