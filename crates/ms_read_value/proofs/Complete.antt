-- What is spelled is read.
use Rattle.std.proofs.Common.{◌≡◌, ℕ, List, [], ◌∷◌, ◌++◌, Option, Some, None, refl, ap, sym, ◌∙◌, append_assoc}
use Rattle.std.specs.Option.{option_map, option_and_then}
use Rattle.ms_text.specs.declared.token.TokenKind.TheVariants as kind
use Rattle.ms_grammar.specs.declared.part.ValuePart.{ValuePart}
use Rattle.ms_grammar.specs.declared.part.ValueRow.{ValueRow}
use Rattle.ms_grammar.specs.Terms.{both}
use Rattle.ms_grammar.specs.Words.{Word, name, number, quoted, sign}
use Rattle.ms_grammar.specs.Reading.{EndsValue}
use Rattle.ms_grammar.specs.Values.{Spelling, Spellings, numeral, negative, string, constant, no_arguments, function, empty_tuple, tuple, tuple_comma, one_value, and_value, value_words, values_words, value_part, values_row, value_named, no_values, with_value}
use Rattle.ms_read_value.specs.declared.groups.Group.{Group}
use Rattle.ms_read_value.specs.declared.reader.Place.TheVariants.{First, Comma, Minus, Name, Value}
use Rattle.ms_read_value.specs.Lexemes.{lexeme_of}
use Rattle.ms_read_value.specs.Machine.{opened, with_part, closed, step_at}
use Rattle.ms_read_value.specs.Front.{read_on}
use Rattle.ms_read_value.proofs.Numerals.{numeral-least, negative-least}
use Rattle.ms_read_value.proofs.Steps.{constant_part, found_at, found_at-word, found_at-end, found_after, found_from}

-- The words don't carry on the value: a name outside of brackets is never taken for whole.
abbrev pub EndsAfter : Spelling → List Group → List Word → Type 0
EndsAfter (constant f) [] ws = ⊥
EndsAfter (constant f) (group ∷ groups) ws = EndsValue ws
EndsAfter v groups ws = Unit {0}

-- what ends any value ends this one
ends_inside : (v : Spelling) (group : Group) (groups : List Group) (ws : List Word) → EndsValue ws → EndsAfter v (group ∷ groups) ws
ends_inside (constant f) group groups ws h = h
ends_inside (numeral n) group groups ws h = tt
ends_inside v group groups ws h = tt

-- a value begins behind an opening bracket
first_begins : (v : Spelling) (groups : List Group) (ws : List Word) → found_at First groups (value_words v ++ ws) ≡ found_from groups (value_words v ++ ws)
first_begins (numeral n) groups ws = found_at-word First groups (number n) ws
first_begins (negative n) groups ws = found_at-word First groups (sign kind.Minus) (number n ∷ ws)
first_begins (string s) groups ws = found_at-word First groups (quoted s) ws
first_begins (constant f) groups ws = found_at-word First groups (name f) ws
first_begins (no_arguments f) groups ws = found_at-word First groups (name f) _
first_begins (function f vs) groups ws = found_at-word First groups (name f) _
first_begins empty_tuple groups ws = found_at-word First groups (sign kind.LeftParen) _
first_begins (tuple vs) groups ws = found_at-word First groups (sign kind.LeftParen) _
first_begins (tuple_comma vs) groups ws = found_at-word First groups (sign kind.LeftParen) _

-- and behind a comma
next_begins : (v : Spelling) (groups : List Group) (ws : List Word) → found_at Comma groups (value_words v ++ ws) ≡ found_from groups (value_words v ++ ws)
next_begins (numeral n) groups ws = found_at-word Comma groups (number n) ws
next_begins (negative n) groups ws = found_at-word Comma groups (sign kind.Minus) (number n ∷ ws)
next_begins (string s) groups ws = found_at-word Comma groups (quoted s) ws
next_begins (constant f) groups ws = found_at-word Comma groups (name f) ws
next_begins (no_arguments f) groups ws = found_at-word Comma groups (name f) _
next_begins (function f vs) groups ws = found_at-word Comma groups (name f) _
next_begins empty_tuple groups ws = found_at-word Comma groups (sign kind.LeftParen) _
next_begins (tuple vs) groups ws = found_at-word Comma groups (sign kind.LeftParen) _
next_begins (tuple_comma vs) groups ws = found_at-word Comma groups (sign kind.LeftParen) _

-- a word other than an opening bracket makes of a name what it makes of a value
name_follows : (f : List ℕ) (group : Group) (groups : List Group) (w : Word) (ws : List Word) → EndsValue (w ∷ ws)
    → step_at (Name f) (group ∷ groups) (lexeme_of w) ≡ step_at Value (with_part group (constant_part f) ∷ groups) (lexeme_of w)
name_follows f group groups (name g) ws h = refl
name_follows f group groups (number n) ws h = refl
name_follows f group groups (quoted s) ws h = refl
name_follows f group groups (sign kind.LeftParen) ws h = absurd h
name_follows f group groups (sign other) ws h = refl

after_name : (f : List ℕ) (groups : List Group) (ws : List Word) → EndsAfter (constant f) groups ws → found_at (Name f) groups ws ≡ found_after (value_part (constant f)) groups ws
after_name f [] ws h = absurd h
after_name f (group ∷ groups) [] h = found_at-end (Name f) (group ∷ groups) ∙ sym (found_at-end Value (with_part group (constant_part f) ∷ groups))
after_name f (group ∷ groups) (w ∷ ws) h =
    found_at-word (Name f) (group ∷ groups) w ws
    ∙ ap (λ p. read_on p ws) (name_follows f group groups w ws h)
    ∙ sym (found_at-word Value (with_part group (constant_part f) ∷ groups) w ws)

-- what is found behind the values of a bracket
abbrev found_behind : Option (List ℕ) → Option ValueRow → List Group → List Word → Option (ValuePart × List Word)
found_behind called None groups ws = None
found_behind called (Some row) groups ws = found_at Value (record { name = called; row = row } ∷ groups) ws

behind_first : (called : Option (List ℕ)) (part : Option ValuePart) (groups : List Group) (ws : List Word)
    → found_after part (opened called ∷ groups) ws ≡ found_behind called (option_map (with_value no_values) part) groups ws
behind_first called None groups ws = refl
behind_first called (Some part) groups ws = refl

-- the row with one more value
abbrev more_values : Option ValueRow → Option ValuePart → Option ValueRow
more_values row part = both (λ r p. Some (with_value r p)) row part

behind_next : (called : Option (List ℕ)) (row : ValueRow) (part : Option ValuePart) (groups : List Group) (ws : List Word)
    → found_after part (record { name = called; row = row } ∷ groups) ws ≡ found_behind called (more_values (Some row) part) groups ws
behind_next called row None groups ws = refl
behind_next called row (Some part) groups ws = refl

-- a bracket closes behind its values
closed_row : (called : Option (List ℕ)) (row : Option ValueRow) (groups : List Group) (ws : List Word)
    → found_behind called row groups (sign kind.RightParen ∷ ws) ≡ found_after (option_and_then (λ r. closed (record { name = called; row = r })) row) groups ws
closed_row called None groups ws = refl
closed_row called (Some row) groups ws = found_at-word Value (record { name = called; row = row } ∷ groups) (sign kind.RightParen) ws

-- and behind a last comma
closed_row_by_comma : (row : Option ValueRow) (groups : List Group) (ws : List Word)
    → found_behind None row groups (sign kind.Comma ∷ sign kind.RightParen ∷ ws) ≡ found_after (option_and_then (value_named []) row) groups ws
closed_row_by_comma None groups ws = refl
closed_row_by_comma (Some row) groups ws =
    found_at-word Value (record { name = None; row = row } ∷ groups) (sign kind.Comma) (sign kind.RightParen ∷ ws)
    ∙ found_at-word Comma (record { name = None; row = row } ∷ groups) (sign kind.RightParen) ws

-- a name with an opening bracket
pub opens_arguments : (f : List ℕ) (groups : List Group) (ws : List Word) → found_at (Name f) groups (sign kind.LeftParen ∷ ws) ≡ found_at First (opened (Some f) ∷ groups) ws
opens_arguments f groups ws = found_at-word (Name f) groups (sign kind.LeftParen) ws

-- a comma and one more value
complete-next : (row : Option ValueRow) (v : Spelling) (called : Option (List ℕ)) (groups : List Group) (ws : List Word)
    → ((group : Group) → found_from (group ∷ groups) (value_words v ++ ws) ≡ found_after (value_part v) (group ∷ groups) ws)
    → found_behind called row groups (sign kind.Comma ∷ (value_words v ++ ws)) ≡ found_behind called (more_values row (value_part v)) groups ws
complete-next None v called groups ws h = refl
complete-next (Some row) v called groups ws h =
    let group : Group = record { name = called; row = row } in
    found_at-word Value (group ∷ groups) (sign kind.Comma) (value_words v ++ ws)
    ∙ next_begins v (group ∷ groups) ws
    ∙ h group
    ∙ behind_next called row (value_part v) groups ws

mutual
  pub complete-value : (v : Spelling) (groups : List Group) (ws : List Word) → EndsAfter v groups ws → found_from groups (value_words v ++ ws) ≡ found_after (value_part v) groups ws
  complete-value (numeral n) groups ws h = ap (λ p. found_after p groups ws) (numeral-least n)
  complete-value (negative n) groups ws h = found_at-word Minus groups (number n) ws ∙ ap (λ p. found_after p groups ws) (negative-least n)
  complete-value (string s) groups ws h = refl
  complete-value (constant f) groups ws h = after_name f groups ws h
  complete-value (no_arguments f) groups ws h =
      opens_arguments f groups (sign kind.RightParen ∷ ws) ∙ found_at-word First (opened (Some f) ∷ groups) (sign kind.RightParen) ws
  complete-value (function f vs) groups ws h =
      opens_arguments f groups ((values_words vs ++ sign kind.RightParen ∷ []) ++ ws)
      ∙ ap (λ x. found_at First (opened (Some f) ∷ groups) x) (append_assoc (values_words vs) (sign kind.RightParen ∷ []) ws)
      ∙ complete-values vs (Some f) groups (sign kind.RightParen ∷ ws) tt
      ∙ closed_row (Some f) (values_row vs) groups ws
  complete-value empty_tuple groups ws h = found_at-word First (opened None ∷ groups) (sign kind.RightParen) ws
  complete-value (tuple vs) groups ws h =
      ap (λ x. found_at First (opened None ∷ groups) x) (append_assoc (values_words vs) (sign kind.RightParen ∷ []) ws)
      ∙ complete-values vs None groups (sign kind.RightParen ∷ ws) tt
      ∙ closed_row None (values_row vs) groups ws
  complete-value (tuple_comma vs) groups ws h =
      ap (λ x. found_at First (opened None ∷ groups) x) (append_assoc (values_words vs) (sign kind.Comma ∷ sign kind.RightParen ∷ []) ws)
      ∙ complete-values vs None groups (sign kind.Comma ∷ sign kind.RightParen ∷ ws) tt
      ∙ closed_row_by_comma (values_row vs) groups ws

  pub complete-values : (vs : Spellings) (called : Option (List ℕ)) (groups : List Group) (ws : List Word) → EndsValue ws
      → found_at First (opened called ∷ groups) (values_words vs ++ ws) ≡ found_behind called (values_row vs) groups ws
  complete-values (one_value v) called groups ws h =
      first_begins v (opened called ∷ groups) ws
      ∙ complete-value v (opened called ∷ groups) ws (ends_inside v (opened called) groups ws h)
      ∙ behind_first called (value_part v) groups ws
  complete-values (and_value vs v) called groups ws h =
      ap (λ x. found_at First (opened called ∷ groups) x) (append_assoc (values_words vs) (sign kind.Comma ∷ value_words v) ws)
      ∙ complete-values vs called groups (sign kind.Comma ∷ (value_words v ++ ws)) tt
      ∙ complete-next (values_row vs) v called groups ws (λ group. complete-value v (group ∷ groups) ws (ends_inside v group groups ws h))
