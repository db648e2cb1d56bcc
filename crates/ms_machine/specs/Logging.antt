-- How the log declares things, each by a line. In a line the literals stand in rising order of their numbers, and of both
-- signs of one thing the positive one comes first.
-- Source: this project's format of a log.
use Rattle.std.specs.Prelude.{ℕ, ◌≡◌, ◌⊎◌, ◌<◌, ◌++◌, true, false, List, Some, All, AllPairs, Any, slice_get}
use Rattle.std.specs.List.{AllZip}
use Rattle.ms_tree.specs.Tree.{Tree}
use Rattle.ms_tree.specs.Text.{tree_text}
use Rattle.ms_lits.specs.declared.lit.Lit.{Lit}
use Rattle.ms_lits.specs.declared.note.Note.{Note}
use Rattle.ms_lits.specs.declared.note.Note.TheVariants.{Atom, Body as BodyNote}
use Rattle.ms_join.specs.Modules.{Join}
use Rattle.ms_join.specs.Things.{Body, Thing}
use Rattle.ms_join.specs.Things.Thing.{atom, body, tuple, aggregate}
use Rattle.ms_things.specs.Completion.{parts_of}
use Rattle.ms_things.specs.Numbers.{Declares}
use Rattle.ms_things.specs.Signs.{Signed, IsFor}

-- The literal comes before the other one in a line.
abbrev pub ComesBefore : Lit → Lit → Type 0
ComesBefore l m = (l.var < m.var) ⊎ ((l.var ≡ m.var) × (l.truth ≡ true) × (m.truth ≡ false))

-- The line says exactly this of things, each once.
pub record IsLineOf (things : List Thing) (signs : List Signed) (line : List Lit) : Type 0 where
  pub in_order : AllPairs ComesBefore line
  pub of_signs : All (λ lit. Any (λ s. IsFor things s lit) signs) line
  pub whole : All (λ s. Any (IsFor things s) line) signs

abbrev pub TellsAtom : List Tree → ℕ → Note → Type 0
TellsAtom names a note = (t : Tree) × (slice_get names a ≡ Some t) × (note ≡ Atom (tree_text t))

abbrev pub TellsBody : List Thing → Body → Note → Type 0
TellsBody things b note = (line : List Lit) × IsLineOf things (parts_of b) line × (note ≡ BodyNote line)

-- The note declares the thing, where these are the terms of the atoms: an atom by the text of its term, and a body by its
-- parts. No tuple and no aggregate has a number yet.
abbrev pub Tells : List Tree → List Thing → Thing → Note → Type 0
Tells names things (atom a) note = TellsAtom names a note
Tells names things (body b) note = TellsBody things b note
Tells names things (tuple t) note = ⊥
Tells names things (aggregate g) note = ⊥

-- After the old things come those that the join has beyond them, each once and behind what it is made of, and the lines
-- declare them one after the other.
pub record LogsThings (j : Join) (names : List Tree) (old : List Thing) (log : List Note) (new : List Thing) : Type 0 where
  pub more : List Thing
  pub longer : new ≡ old ++ more
  pub declares : Declares j old more
  pub tells : AllZip (Tells names new) more log
