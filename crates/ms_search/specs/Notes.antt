-- The lines that a search adds.
use Rattle.std.specs.Prelude.{Bool, true, false}
use Rattle.ms_lits.specs.declared.note.Note.{Note}
use Rattle.ms_lits.specs.declared.note.Note.TheVariants as notes
use Rattle.ms_lits.specs.Literals.{Nogood}
use Rattle.ms_nogood.specs.declared.kind.Kind.{Kind}
use Rattle.ms_nogood.specs.declared.kind.Kind.TheVariants.{Base, Kept, Temporary, Reason}

-- the line of a nogood of a kind that a solve adds
abbrev pub note_of : Kind → Nogood → Note
note_of Base lits = notes.Theory lits
note_of Kept lits = notes.Kept lits
note_of Temporary lits = notes.Temporary lits
note_of Reason lits = notes.Theory lits

-- the kind of a learned nogood: it lasts where it doesn't rest on a temporary one
abbrev pub learned_kind : Bool → Kind
learned_kind true = Temporary
learned_kind false = Kept
