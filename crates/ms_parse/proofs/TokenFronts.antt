-- A front of tokens that spells a value, and the tokens after it.
use Rattle.std.proofs.Common.{◌≡◌, ℕ, ◌≤◌, List, length, drop, Option, Some, sym, ap, ◌∙◌, subst, arith}
use Rattle.std.proofs.lemmas.List.{length-map, drop-map}
use Rattle.ms_text.specs.declared.token.Token.{Token}
use Rattle.ms_grammar.specs.Words.{Word, word_of, words_of}
use Rattle.ms_grammar.specs.Reading.{IsRead}
use Rattle.ms_parse.proofs.Fronts.{IsSplit, split_from_read}

module _ (D V : Type 0) (words : D → List Word) (spelled : D → Option V) (Ends : List Word → Type 0) (text : List ℕ) (tokens : List Token) (value : V) (n : ℕ) (found : Option (V × ℕ)) (is : found ≡ Some (value, n)) (read : IsRead D V words spelled Ends (words_of text tokens) found) where
  pub front_len : n ≤ length tokens
  front_len = let front = rw is at read.sound in omega (arith, front.within, length-map tokens (word_of text))

  pub split_tokens : (after : List Token) → after ≡ drop n tokens → IsSplit D V words spelled Ends (words_of text tokens) value (words_of text after)
  split_tokens after e =
      let same : drop n (words_of text tokens) ≡ words_of text after = drop-map (word_of text) n tokens ∙ ap (words_of text) (sym e) in
      subst (IsSplit D V words spelled Ends (words_of text tokens) value) same (split_from_read D V words spelled Ends (words_of text tokens) value n found is read)
