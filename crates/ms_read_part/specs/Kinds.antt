-- The kinds of words, and what they begin and end.
use Rattle.std.specs.Prelude.{◌≡◌, Bool, true, false, List, [], ◌∷◌, Option, Some, None}
use Rattle.std.specs.Option.{option_and_then}
use Rattle.ms_text.specs.declared.token.TokenKind.{TokenKind}
use Rattle.ms_text.specs.declared.token.TokenKind.TheVariants.{Name, Number, Text, Count as CountKind, Sum as SumKind, Semicolon, Colon, LeftBrace, RightBrace}
use Rattle.ms_grammar.specs.declared.statement.Cmp.{Cmp}
use Rattle.ms_grammar.specs.declared.statement.AggFn.TheVariants.{Count, Sum}
use Rattle.ms_grammar.specs.Words.{Word, name, number, quoted, sign}
use Rattle.ms_grammar.specs.Reading.{ends_part}
use Rattle.ms_grammar.specs.Statements.{cmp_of}
use Rattle.ms_read_part.specs.declared.kinds.Opening.{Opening}
use Rattle.ms_read_part.specs.declared.kinds.Opening.TheVariants.{Set, Aggregate}

abbrev pub kind_of : Word → TokenKind
kind_of (name s) = Name
kind_of (number n) = Number
kind_of (quoted s) = Text
kind_of (sign kind) = kind

-- the kind of the first word
abbrev pub front_kind : List Word → Option TokenKind
front_kind [] = None
front_kind (w ∷ ws) = Some (kind_of w)

abbrev pub cmp_at : Option TokenKind → Option Cmp
cmp_at front = option_and_then cmp_of front

abbrev pub ends_at : Option TokenKind → Bool
ends_at None = true
ends_at (Some kind) = ends_part kind

abbrev pub opened_by : Option TokenKind → Option Opening
opened_by (Some LeftBrace) = Some Set
opened_by (Some CountKind) = Some (Aggregate Count)
opened_by (Some SumKind) = Some (Aggregate Sum)
opened_by front = None

abbrev pub opens : Option TokenKind → Bool
opens (Some LeftBrace) = true
opens (Some CountKind) = true
opens (Some SumKind) = true
opens front = false

-- what may follow an element
abbrev pub ends_element : Option TokenKind → Bool
ends_element (Some Semicolon) = true
ends_element (Some RightBrace) = true
ends_element front = false

abbrev pub EndsElement : List Word → Type 0
EndsElement ws = ends_element (front_kind ws) ≡ true

-- what may follow the terms of a tuple
abbrev pub ends_tuple : Option TokenKind → Bool
ends_tuple (Some Colon) = true
ends_tuple (Some Semicolon) = true
ends_tuple (Some RightBrace) = true
ends_tuple front = false

abbrev pub EndsTuple : List Word → Type 0
EndsTuple ws = ends_tuple (front_kind ws) ≡ true

-- what follows the elements
abbrev pub EndsElements : List Word → Type 0
EndsElements ws = front_kind ws ≡ Some RightBrace

abbrev pub is_right_brace : Option TokenKind → Bool
is_right_brace (Some RightBrace) = true
is_right_brace front = false
