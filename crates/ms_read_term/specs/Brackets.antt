-- What stands in an open bracket.
use Rattle.std.specs.Prelude.{ℕ, List, [], ◌∷◌, Option, Some, None, Result, Ok, Err}
use Rattle.std.specs.Option.{option_map}
use Rattle.ms_grammar.specs.declared.term.TextTerm.{TextTerm}
use Rattle.ms_grammar.specs.declared.part.Part.{Part}
use Rattle.ms_grammar.specs.declared.part.Row.{Row}
use Rattle.ms_grammar.specs.declared.part.Rows.{Rows}
use Rattle.ms_grammar.specs.Terms.{with_term, only_list, with_list, named, tuple_of, grouped, with_alternative, pooled}
use Rattle.ms_read_term.specs.declared.level.Level.{Level}
use Rattle.ms_read_term.specs.declared.bracket.Bracket.{Bracket}
use Rattle.ms_read_term.specs.declared.bracket.Frame.{Frame}
use Rattle.ms_read_term.specs.declared.bracket.Bracket.TheVariants.{Arguments, Parenthesis, Bar}

-- the only term, or else the terms back
abbrev pub only_of : List TextTerm → Result TextTerm (List TextTerm)
only_of (t ∷ []) = Ok t
only_of terms = Err terms

-- the row, or no terms where there is none yet
abbrev pub row_or : Option Row → ℕ → Row
row_or None choices = record { terms = []; height = 0; choices = choices }
row_or (Some row) choices = row

abbrev pub row_so_far : Option Row → Row
row_so_far row = row_or row 1

abbrev pub alternatives_so_far : Option Row → Row
alternatives_so_far row = row_or row 0

abbrev pub with_row : Option Rows → Row → Rows
with_row None row = only_list row
with_row (Some rows) row = with_list rows row

-- the parenthesis with one more alternative
abbrev pub parenthesis_with : Option Row → Option Part → Option Bracket
parenthesis_with alternatives tuple = option_map (λ p. Parenthesis (Some (with_alternative (alternatives_so_far alternatives) p))) tuple

-- the bracket with the list that ends with this term
abbrev pub ended_with : Bracket → Option Row → Part → Option Bracket
ended_with (Arguments name lists) row last = Some (Arguments name (Some (with_row lists (with_term (row_so_far row) last))))
ended_with (Parenthesis alternatives) row last = parenthesis_with alternatives (grouped (with_term (row_so_far row) last).terms (with_term (row_so_far row) last))
ended_with Bar row last = None

-- the bracket with the list that ends behind the bracket itself, a `;` or a `,`
abbrev pub ended_bare : Bracket → Option Row → Option Bracket
ended_bare (Arguments name lists) None = Some (Arguments name (Some (with_row lists (row_so_far None))))
ended_bare (Arguments name lists) (Some row) = None
ended_bare (Parenthesis alternatives) row = parenthesis_with alternatives (tuple_of (row_so_far row))
ended_bare Bar row = None

-- what the bracket is once it is closed behind a list
abbrev pub bracket_part : Bracket → Option Part
bracket_part (Arguments name (Some rows)) = named name rows
bracket_part (Parenthesis (Some alternatives)) = pooled alternatives.terms alternatives
bracket_part bracket = None

-- a bracket in which nothing stands behind it or its last `;`
abbrev pub new_frame : Level → Bracket → Frame
new_frame outside bracket = record { outside = outside; bracket = bracket; row = None }

-- the frame with a term that a `,` ended, where the bracket has lists
abbrev pub frame_with_in : Bracket → Frame → Part → Option Frame
frame_with_in Bar frame t = None
frame_with_in bracket frame t = Some (record frame { row = Some (with_term (row_so_far frame.row) t) })

abbrev pub frame_with : Frame → Part → Option Frame
frame_with frame t = frame_with_in frame.bracket frame t

-- what stands before a bar, if the bracket is one
abbrev pub outside_of_bar_in : Bracket → Level → Option Level
outside_of_bar_in Bar outside = Some outside
outside_of_bar_in bracket outside = None

abbrev pub outside_of_bar : Frame → Option Level
outside_of_bar frame = outside_of_bar_in frame.bracket frame.outside
