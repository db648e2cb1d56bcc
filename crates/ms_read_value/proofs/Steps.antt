-- One word after another.
use Rattle.std.proofs.Common.{◌≡◌, ℕ, List, [], ◌∷◌, Option, None, refl}
use Rattle.ms_grammar.specs.declared.value.Value.{Function}
use Rattle.ms_grammar.specs.declared.part.ValuePart.{ValuePart}
use Rattle.ms_grammar.specs.Words.{Word}
use Rattle.ms_read_value.specs.declared.groups.Group.{Group}
use Rattle.ms_read_value.specs.declared.reader.Place.{Place}
use Rattle.ms_read_value.specs.Lexemes.{lexeme_of}
use Rattle.ms_read_value.specs.Machine.{behind_some, step_at, within, begin}
use Rattle.ms_read_value.specs.Front.{read_on}

-- a name without arguments
abbrev pub constant_part : List ℕ → ValuePart
constant_part f = record { value = Function f []; height = 1 }

-- what is found from a place on
abbrev pub found_at : Place → List Group → List Word → Option (ValuePart × List Word)
found_at place groups ws = read_on (within groups place) ws

pub found_at-word : (place : Place) (groups : List Group) (w : Word) (ws : List Word) → found_at place groups (w ∷ ws) ≡ read_on (step_at place groups (lexeme_of w)) ws
unfolding Rattle.ms_read_value.specs.Front.read_from
found_at-word place groups w ws = refl

pub found_at-end : (place : Place) (groups : List Group) → found_at place groups [] ≡ None
unfolding Rattle.ms_read_value.specs.Front.read_from
found_at-end place groups = refl

-- what is found behind a value
abbrev pub found_after : Option ValuePart → List Group → List Word → Option (ValuePart × List Word)
found_after part groups ws = read_on (behind_some part groups) ws

-- what is found where a value begins
abbrev pub found_from : List Group → List Word → Option (ValuePart × List Word)
found_from groups [] = None
found_from groups (w ∷ ws) = read_on (begin groups (lexeme_of w)) ws
