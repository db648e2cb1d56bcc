-- A reader of values, word by word: the brackets that are open, the innermost first, and a place in the
-- innermost one.
use Rattle.std.specs.Prelude.{ℕ, List, [], ◌∷◌, Option, Some, None}
use Rattle.ms_grammar.specs.declared.part.ValuePart.{ValuePart}
use Rattle.ms_grammar.specs.Values.{numeral, negative, string, constant, value_part, value_named, value_grouped, no_values, with_value}
use Rattle.ms_read_value.specs.declared.lexemes.Lexeme.{Lexeme}
use Rattle.ms_read_value.specs.declared.lexemes.Lexeme.TheVariants as lexeme
use Rattle.ms_read_value.specs.declared.groups.Group.{Group}
use Rattle.ms_read_value.specs.declared.reader.Place.{Place}
use Rattle.ms_read_value.specs.declared.reader.Place.TheVariants.{First, Comma, Minus, Name, Value}
use Rattle.ms_read_value.specs.declared.reader.Progress.{Progress}
use Rattle.ms_read_value.specs.declared.reader.Progress.TheVariants.{Within, Done, Failed}

-- a bracket with no values
abbrev pub opened : Option (List ℕ) → Group
opened name = record { name = name; row = no_values }

-- the bracket with one more value
abbrev pub with_part : Group → ValuePart → Group
with_part group part = record { name = group.name; row = with_value group.row part }

-- what a bracket is when it is closed
abbrev pub closed : Group → Option ValuePart
closed group = elim group.name [ Some f ↦ value_named f group.row | None ↦ value_grouped group.row.values group.row ]

-- what it is when it is closed behind a comma
abbrev pub closed_by_comma : Group → Option ValuePart
closed_by_comma group = elim group.name [ Some f ↦ None | None ↦ value_named [] group.row ]

abbrev pub within : List Group → Place → Progress
within groups place = Within (record { groups = groups; place = place })

-- behind a value, which the innermost bracket has from now on, or which is all
abbrev pub behind : List Group → ValuePart → Progress
behind [] part = Done part
behind (group ∷ groups) part = within (with_part group part ∷ groups) Value

abbrev pub behind_some : Option ValuePart → List Group → Progress
behind_some None groups = Failed
behind_some (Some part) groups = behind groups part

-- the first word of a value
abbrev pub begin : List Group → Lexeme → Progress
begin groups (lexeme.Name f) = within groups (Name f)
begin groups (lexeme.Number n) = behind_some (value_part (numeral n)) groups
begin groups (lexeme.Text s) = behind_some (value_part (string s)) groups
begin groups lexeme.Minus = within groups Minus
begin groups lexeme.Open = within (opened None ∷ groups) First
begin groups word = Failed

abbrev pub leave : List Group → Progress
leave [] = Failed
leave (group ∷ groups) = behind_some (closed group) groups

abbrev pub leave_by_comma : List Group → Progress
leave_by_comma [] = Failed
leave_by_comma (group ∷ groups) = behind_some (closed_by_comma group) groups

-- a word behind a value
abbrev pub follow : List Group → Lexeme → Progress
follow groups lexeme.Comma = within groups Comma
follow groups lexeme.Close = leave groups
follow groups word = Failed

-- a word behind a name without arguments
abbrev pub follow_name : Progress → Lexeme → Progress
follow_name (Within reader) word = follow reader.groups word
follow_name progress word = Failed

abbrev pub step_at : Place → List Group → Lexeme → Progress
step_at First groups lexeme.Close = leave groups
step_at First groups word = begin groups word
step_at Comma groups lexeme.Close = leave_by_comma groups
step_at Comma groups word = begin groups word
step_at Minus groups (lexeme.Number n) = behind_some (value_part (negative n)) groups
step_at Minus groups word = Failed
step_at (Name f) groups lexeme.Open = within (opened (Some f) ∷ groups) First
step_at (Name f) groups word = follow_name (behind_some (value_part (constant f)) groups) word
step_at Value groups word = follow groups word
