-- The lines of the log as text. A line ends with a line end, and its items stand behind one space each. Things are
-- counted from 1, and a literal has a `-` before its thing where its sign is false. The format is this project's own.
use Rattle.std.specs.Prelude.{ℕ, ◌+◌, ◌<◌, ◌^◌, ◌≡◌, ◌≢◌, ◌⊎◌, ◌==◌, Bool, not, if◌then◌else◌, List, [], ◌∷◌, ◌++◌, All, take_while, codes, decimal}
use Rattle.std.specs.List.{flat_map}
use Rattle.ms_lits.specs.declared.lit.Lit.{Lit}
use Rattle.ms_lits.specs.declared.note.Note.{Note}
use Rattle.ms_lits.specs.declared.note.Note.TheVariants.{Atom, Body, Tuple, Aggregate, Start, Theory, Kept, Temporary, Answer, Finish}

abbrev pub number_text : ℕ → List ℕ
number_text thing = decimal (thing + 1)

abbrev pub literal_text : Lit → List ℕ
literal_text lit = if lit.truth then number_text lit.var else 45 ∷ number_text lit.var

-- each item behind a space
abbrev pub items_text : {X : Type 0} → (X → List ℕ) → List X → List ℕ
items_text text items = flat_map (λ x. 32 ∷ text x) items

abbrev pub numbers_text : List ℕ → List ℕ
numbers_text numbers = items_text number_text numbers

abbrev pub literals_text : List Lit → List ℕ
literals_text lits = items_text literal_text lits

-- The line of a note without its line end. A `0`, which no thing has, says that an atom outside the base is assumed true.
abbrev pub words_text : Note → List ℕ
words_text (Atom name) = codes "v a " ++ name
words_text (Body lits) = codes "v b" ++ literals_text lits
words_text (Tuple terms conditions) = codes "v t " ++ terms ++ codes " :" ++ numbers_text conditions
words_text (Aggregate guards tuples) = codes "v g " ++ guards ++ codes " :" ++ numbers_text tuples
words_text (Start outside lits) = codes "s" ++ (if outside then codes " 0" else []) ++ literals_text lits
words_text (Theory lits) = codes "x" ++ literals_text lits
words_text (Kept lits) = codes "k" ++ literals_text lits
words_text (Temporary lits) = codes "t" ++ literals_text lits
words_text (Answer atoms) = codes "m" ++ numbers_text atoms
words_text (Finish ending) = codes "e " ++ ending

abbrev pub note_text : Note → List ℕ
note_text note = words_text note ++ codes "\n"

-- a log is the lines of its notes, one after the other
abbrev pub notes_text : List Note → List ℕ
notes_text notes = flat_map note_text notes

-- A text that a line can hold: it isn't empty, and has no line end.
pub record IsInLine (text : List ℕ) : Type 0 where
  pub some : text ≢ []
  pub no_end : All (λ b. b ≢ 10) text

-- everything but a space
abbrev pub is_in_word : ℕ → Bool
is_in_word b = not (b == 32)

abbrev pub first_word : List ℕ → List ℕ
first_word text = take_while is_in_word text

-- The text of an aggregate begins with its function.
abbrev pub HasFunction : List ℕ → Type 0
HasFunction text = (first_word text ≡ codes "count") ⊎ (first_word text ≡ codes "sum")

-- things have numbers of 32 bits
abbrev pub IsThing : ℕ → Type 0
IsThing thing = thing < 2 ^ 32

abbrev pub IsLiteral : Lit → Type 0
IsLiteral lit = IsThing lit.var

-- What is read back: each note whose texts a line can hold. Nothing is asked of the order of its lists.
abbrev pub IsReadable : Note → Type 0
IsReadable (Atom name) = IsInLine name
IsReadable (Body lits) = All IsLiteral lits
IsReadable (Tuple terms conditions) = IsInLine terms × All IsThing conditions
IsReadable (Aggregate guards tuples) = IsInLine guards × HasFunction guards × All IsThing tuples
IsReadable (Start outside lits) = All IsLiteral lits
IsReadable (Theory lits) = All IsLiteral lits
IsReadable (Kept lits) = All IsLiteral lits
IsReadable (Temporary lits) = All IsLiteral lits
IsReadable (Answer atoms) = All IsThing atoms
IsReadable (Finish ending) = IsInLine ending
