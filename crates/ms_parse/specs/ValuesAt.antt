-- The values that begin at a token of a text.
use Rattle.std.specs.Prelude.{ℕ, ◌≡◌, ◌≤◌, ◌<◌, List, length, slice_range, Option, Some, IfSome, IsSomeAnd}
use Rattle.ms_text.specs.declared.token.Token.{Token}
use Rattle.ms_grammar.specs.declared.part.ValuePart.{ValuePart}
use Rattle.ms_grammar.specs.Words.{words_of}
use Rattle.ms_grammar.specs.Values.{Spelling, value_words, value_part}
use Rattle.ms_parse.specs.declared.ValueAt.{ValueAt}

abbrev pub value_at : ValuePart → ℕ → ValueAt
value_at part next = record { value = part.value; next = next }

-- The tokens from one place to before another spell the value.
pub record SpellsValue (text : List ℕ) (tokens : List Token) (from : ℕ) (found : ValueAt) : Type 0 where
  pub spelling : Spelling
  pub part : ValuePart
  pub after : from < found.next
  pub within : found.next ≤ length tokens
  pub words_are : value_words spelling ≡ words_of text (slice_range tokens from found.next)
  pub spells : value_part spelling ≡ Some part
  pub value_is : part.value ≡ found.value

-- What is found is a value that begins at the place, and no value that begins there is longer. There is one
-- value for each length.
pub record IsLongestFrom (text : List ℕ) (tokens : List Token) (from : ℕ) (found : Option ValueAt) : Type 0 where
  pub sound : IfSome found (SpellsValue text tokens from)
  pub longest : (other : ValueAt) → SpellsValue text tokens from other → IsSomeAnd found (λ f. (other.next ≤ f.next) × (other.next ≡ f.next → other.value ≡ f.value))
