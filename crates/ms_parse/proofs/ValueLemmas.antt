-- The longest value at a place, from the longest front of the words from there.
use Rattle.std.proofs.Common.{◌≡◌, ℕ, ◌+◌, ◌-◌, ◌≤◌, List, [], length, take, drop, slice_range, Option, Some, None, IfSome, IsSomeAnd, refl, sym, ap, ◌∙◌, length-drop, arith}
use Rattle.std.specs.Option.{option_map}
use Rattle.std.proofs.lemmas.List.{length-map, take-map}
use Rattle.ms_text.specs.declared.token.Token.{Token}
use Rattle.ms_grammar.specs.declared.part.ValuePart.{ValuePart}
use Rattle.ms_grammar.specs.Words.{Word, word_of, words_of}
use Rattle.ms_grammar.specs.Values.{Spelling, numeral, negative, string, constant, no_arguments, function, empty_tuple, tuple, tuple_comma, value_words, value_part}
use Rattle.ms_grammar.specs.Reading.{IsFront, IsLongest}
use Rattle.ms_parse.specs.declared.ValueAt.{ValueAt}
use Rattle.ms_parse.specs.ValuesAt.{value_at, SpellsValue, IsLongestFrom}

some_word : (v : Spelling) → value_words v ≡ [] → ⊥
some_word (numeral n) e = cc
some_word (negative n) e = cc
some_word (string s) e = cc
some_word (constant f) e = cc
some_word (no_arguments f) e = cc
some_word (function f vs) e = cc
some_word empty_tuple e = cc
some_word (tuple vs) e = cc
some_word (tuple_comma vs) e = cc

abbrev IsValueFront : List Word → ValuePart → ℕ → Type 0
IsValueFront = IsFront Spelling ValuePart value_words value_part

-- what was found, by its place
abbrev pub place : ℕ → ValuePart × ℕ → ValueAt
place from found = value_at found.0 (from + found.1)

module _ (text : List ℕ) (tokens : List Token) (from : ℕ) (begins : from ≤ length tokens) where
  abbrev words_from : List Word
  words_from = words_of text (drop from tokens)

  words_len : length words_from ≡ length tokens - from
  words_len = length-map (drop from tokens) (word_of text) ∙ length-drop from tokens

  range_words : (n : ℕ) → words_of text (slice_range tokens from (from + n)) ≡ take n words_from
  range_words n =
      let same : from + n - from ≡ n = omega arith in
      ap (λ k. words_of text (take k (drop from tokens))) same ∙ sym (take-map (word_of text) n (drop from tokens))

  positive_front : (part : ValuePart) (n : ℕ) → IsValueFront words_from part n → n ≡ 0 → ⊥
  positive_front part n front e = some_word front.derivation (front.words_are ∙ ap (λ k. take k words_from) e)

  spells_from_front : (found : ValuePart × ℕ) → IsValueFront words_from found.0 found.1 → SpellsValue text tokens from (place from found)
  spells_from_front found front = record {
    spelling = front.derivation;
    part = found.0;
    after = let positive : found.1 ≡ 0 → ⊥ = positive_front found.0 found.1 front in omega arith;
    within = omega (arith, front.within, words_len);
    words_are = front.words_are ∙ sym (range_words found.1);
    spells = front.spells;
    value_is = refl;
  }

  front_from_spells : (other : ValueAt) (s : SpellsValue text tokens from other) → IsValueFront words_from s.part (other.next - from)
  front_from_spells other s =
      let same : from + (other.next - from) ≡ other.next = omega (arith, s.after) in
      record {
        derivation = s.spelling;
        within = omega (arith, s.within, words_len);
        words_are = s.words_are ∙ ap (λ k. words_of text (slice_range tokens from k)) (sym same) ∙ range_words (other.next - from);
        spells = s.spells;
      }

  sound_place : (o : Option (ValuePart × ℕ)) → IfSome o (λ f. IsValueFront words_from f.0 f.1) → IfSome (option_map (place from) o) (SpellsValue text tokens from)
  sound_place None h = tt
  sound_place (Some f) h = spells_from_front f h

  longest_place : (o : Option (ValuePart × ℕ)) (other : ValueAt) (s : SpellsValue text tokens from other) → IsSomeAnd o (λ f. (other.next - from ≤ f.1) × (other.next - from ≡ f.1 → s.part ≡ f.0)) → IsSomeAnd (option_map (place from) o) (λ f. (other.next ≤ f.next) × (other.next ≡ f.next → other.value ≡ f.value))
  longest_place None other s h = absurd h
  longest_place (Some f) other s h = (
    omega (arith, h.0, s.after),
    λ e.
        let same : other.next - from ≡ f.1 = omega (arith, e) in
        sym s.value_is ∙ ap (λ (p : ValuePart). p.value) (h.1 same),
  )

  pub longest_from : (found : Option (ValuePart × ℕ)) → IsLongest Spelling ValuePart value_words value_part words_from found → IsLongestFrom text tokens from (option_map (place from) found)
  longest_from found h = record {
    sound = sound_place found h.sound;
    longest = λ other s. longest_place found other s (h.longest s.part (other.next - from) (front_from_spells other s));
  }

  -- the place after the value is one of the tokens' or their end
  pub next_within : (part : ValuePart) (n : ℕ) (found : Option (ValuePart × ℕ)) → found ≡ Some (part, n) → IsLongest Spelling ValuePart value_words value_part words_from found → from + n ≤ length tokens
  next_within part n found is h = let front = rw is at h.sound in omega (arith, front.within, words_len)

  pub longest_some : (part : ValuePart) (n : ℕ) (found : Option (ValuePart × ℕ)) → found ≡ Some (part, n) → IsLongest Spelling ValuePart value_words value_part words_from found → IsLongestFrom text tokens from (Some (place from (part, n)))
  longest_some part n found is h = rw is at (longest_from found h)

  pub longest_none : (found : Option (ValuePart × ℕ)) → found ≡ None → IsLongest Spelling ValuePart value_words value_part words_from found → IsLongestFrom text tokens from None
  longest_none found is h = rw is at (longest_from found h)
