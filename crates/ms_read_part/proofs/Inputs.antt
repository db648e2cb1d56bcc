-- What is left of the words of tokens.
use Rattle.std.proofs.Common.{◌≡◌, ℕ, ◌-◌, List, length, take, drop, ap, sym, ◌∙◌}
use Rattle.std.proofs.lemmas.List.{take_rest, drop-map}
use Rattle.ms_text.specs.declared.token.Token.{Token}
use Rattle.ms_grammar.specs.Words.{word_of, words_of}

pub words_after : (text : List ℕ) (tokens : List Token) (n : ℕ) → words_of text (take (length tokens - n) (drop n tokens)) ≡ drop n (words_of text tokens)
words_after text tokens n = ap (words_of text) (take_rest tokens n) ∙ sym (drop-map (word_of text) n tokens)
