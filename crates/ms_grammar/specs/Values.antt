-- The grammar of values: ground terms as they are written.
-- Source: ground terms of ASP-Core-2, with clingo's tuples, in a profile of this project.
use Rattle.std.specs.Prelude.{ℕ, suc, nat_le, pos, neg_ℤ, if◌then◌else◌, max, List, [], ◌∷◌, ◌++◌, Option, Some, None}
use Rattle.std.specs.Option.{option_map, option_and_then}
use Rattle.ms_text.specs.declared.token.TokenKind.TheVariants.{Comma, LeftParen, RightParen, Minus}
use Rattle.ms_grammar.specs.declared.value.Value.{Value, Number, Text, Function}
use Rattle.ms_grammar.specs.declared.part.ValuePart.{ValuePart}
use Rattle.ms_grammar.specs.declared.part.ValueRow.{ValueRow}
use Rattle.ms_grammar.specs.Words.{Word, name, number, quoted, sign}
use Rattle.ms_base.specs.Limits.{most_height}
use Rattle.ms_grammar.specs.Terms.{greatest_numeral, both}

mutual
  -- value = ["-"] number | string | name ["(" [value {"," value}] ")"] | "(" [value {"," value} [","]] ")"
  pub data Spelling : Type 0 where
    numeral : ℕ → Spelling
    negative : ℕ → Spelling
    string : List ℕ → Spelling
    constant : List ℕ → Spelling
    no_arguments : List ℕ → Spelling
    function : List ℕ → Spellings → Spelling
    empty_tuple : Spelling
    tuple : Spellings → Spelling
    tuple_comma : Spellings → Spelling

  -- value {"," value}
  pub data Spellings : Type 0 where
    one_value : Spelling → Spellings
    and_value : Spellings → Spelling → Spellings

abbrev mutual
  pub value_words : Spelling → List Word
  value_words (numeral n) = number n ∷ []
  value_words (negative n) = sign Minus ∷ number n ∷ []
  value_words (string s) = quoted s ∷ []
  value_words (constant f) = name f ∷ []
  value_words (no_arguments f) = name f ∷ sign LeftParen ∷ sign RightParen ∷ []
  value_words (function f vs) = name f ∷ sign LeftParen ∷ values_words vs ++ sign RightParen ∷ []
  value_words empty_tuple = sign LeftParen ∷ sign RightParen ∷ []
  value_words (tuple vs) = sign LeftParen ∷ values_words vs ++ sign RightParen ∷ []
  value_words (tuple_comma vs) = sign LeftParen ∷ values_words vs ++ sign Comma ∷ sign RightParen ∷ []

  pub values_words : Spellings → List Word
  values_words (one_value v) = value_words v
  values_words (and_value vs v) = values_words vs ++ sign Comma ∷ value_words v

abbrev pub no_values : ValueRow
no_values = record { values = []; height = 0 }

abbrev pub with_value : ValueRow → ValuePart → ValueRow
with_value row p = record { values = row.values ++ p.value ∷ []; height = max row.height p.height }

abbrev pub value_leaf : Value → ValuePart
value_leaf v = record { value = v; height = 1 }

-- a name with its arguments, where it isn't higher than it may be
abbrev pub value_named : List ℕ → ValueRow → Option ValuePart
value_named f row = if nat_le (suc row.height) most_height then Some (record { value = Function f row.values; height = suc row.height }) else None

-- what the values of a parenthesis are without a last comma: one value is itself
abbrev pub value_grouped : List Value → ValueRow → Option ValuePart
value_grouped (v ∷ []) row = Some (record { value = v; height = row.height })
value_grouped values row = value_named [] row

-- The value that a derivation spells, or None where it is higher or a number is greater than it may be.
abbrev mutual
  pub value_part : Spelling → Option ValuePart
  value_part (numeral n) = if nat_le n greatest_numeral then Some (value_leaf (Number (pos n))) else None
  value_part (negative n) = if nat_le n (suc greatest_numeral) then Some (value_leaf (Number (neg_ℤ (pos n)))) else None
  value_part (string s) = Some (value_leaf (Text s))
  value_part (constant f) = value_named f no_values
  value_part (no_arguments f) = value_named f no_values
  value_part (function f vs) = option_and_then (value_named f) (values_row vs)
  value_part empty_tuple = value_named [] no_values
  value_part (tuple vs) = option_and_then (λ row. value_grouped row.values row) (values_row vs)
  value_part (tuple_comma vs) = option_and_then (value_named []) (values_row vs)

  pub values_row : Spellings → Option ValueRow
  values_row (one_value v) = option_map (with_value no_values) (value_part v)
  values_row (and_value vs v) = both (λ row p. Some (with_value row p)) (values_row vs) (value_part v)
