-- What a reader of values finds at the front of words.
use Rattle.std.specs.Prelude.{ℕ, ◌-◌, List, [], ◌∷◌, length, Option, Some, None}
use Rattle.std.specs.Option.{option_map, option_or}
use Rattle.ms_grammar.specs.declared.part.ValuePart.{ValuePart}
use Rattle.ms_grammar.specs.Words.{Word}
use Rattle.ms_grammar.specs.Values.{constant, value_part}
use Rattle.ms_read_value.specs.declared.lexemes.Lexeme.{Lexeme}
use Rattle.ms_read_value.specs.declared.lexemes.Lexeme.TheVariants.{Name, Open}
use Rattle.ms_read_value.specs.declared.reader.Reader.{Reader}
use Rattle.ms_read_value.specs.declared.reader.Place.TheVariants.{First}
use Rattle.ms_read_value.specs.declared.reader.Progress.{Progress}
use Rattle.ms_read_value.specs.declared.reader.Progress.TheVariants.{Within, Done, Failed}
use Rattle.ms_read_value.specs.Lexemes.{lexeme_of}
use Rattle.ms_read_value.specs.Machine.{opened, begin, step_at}

-- The value that ends where the reader first has a whole one, with the words behind it.
unfoldable pub read_from : Reader → List Word → Option (ValuePart × List Word)
read_from reader [] = None
read_from reader (w ∷ ws) = elim (step_at reader.place reader.groups (lexeme_of w)) [
  | Within next ↦ read_from next ws
  | Done part ↦ Some (part, ws)
  | Failed ↦ None
]

abbrev pub read_on : Progress → List Word → Option (ValuePart × List Word)
read_on progress ws = elim progress [ Within reader ↦ read_from reader ws | Done part ↦ Some (part, ws) | Failed ↦ None ]

abbrev pub arguments_by : Lexeme → List ℕ → List Word → Option (ValuePart × List Word)
arguments_by Open f ws = read_from (record { groups = opened (Some f) ∷ []; place = First }) ws
arguments_by word f ws = None

-- a name with its arguments, from what follows the name
abbrev pub arguments_front : List ℕ → List Word → Option (ValuePart × List Word)
arguments_front f [] = None
arguments_front f (w ∷ ws) = arguments_by (lexeme_of w) f ws

-- The name with its arguments, or else the name alone.
abbrev pub front_named : List ℕ → List Word → Option (ValuePart × List Word)
front_named f ws = option_or (arguments_front f ws) (option_map (λ part. (part, ws)) (value_part (constant f)))

abbrev pub front_by : Lexeme → List Word → Option (ValuePart × List Word)
front_by (Name f) ws = front_named f ws
front_by word ws = read_on (begin [] word) ws

-- the value at the front, with the words behind it
abbrev pub front : List Word → Option (ValuePart × List Word)
front [] = None
front (w ∷ ws) = front_by (lexeme_of w) ws

-- with the number of the words behind it
abbrev pub left : Option (ValuePart × List Word) → Option (ValuePart × ℕ)
left found = option_map (λ f. (f.0, length f.1)) found

-- with the number of its words
abbrev pub counted : List Word → Option (ValuePart × ℕ)
counted ws = option_map (λ f. (f.0, length ws - length f.1)) (front ws)
