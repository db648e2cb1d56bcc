-- What readers of texts find.
use Rattle.std.specs.Prelude.{ℕ, ◌≡◌, ◌≢◌, ◌<◌, ◌^◌, Bool, if◌then◌else◌, List, [], ◌∷◌, ◌++◌, Option, Some, None, All, codes}
use Rattle.ms_lits.specs.declared.lit.Lit.{Lit}
use Rattle.ms_log.specs.NoteText.{numbers_text, literals_text, IsInLine, IsThing, HasFunction}
use Rattle.ms_log.specs.declared.kind.Kind.{Kind}
use Rattle.ms_log.specs.declared.kind.Kind.TheVariants.{Atom, Body, Tuple, Aggregate, Start, Theory, Kept, Temporary, Answer, Finish}

-- What was found has this text; nothing was found exactly where nothing has it.
abbrev pub IsReadBack : {X : Type 0} → (X → List ℕ) → (X → Type 0) → List ℕ → Option X → Type 0
IsReadBack text Fits bytes (Some x) = Fits x × (bytes ≡ text x)
IsReadBack {X} text Fits bytes None = (x : X) → Fits x → bytes ≢ text x

-- the words that a line begins with
abbrev pub kind_text : Kind → List ℕ
kind_text Atom = codes "v a"
kind_text Body = codes "v b"
kind_text Tuple = codes "v t"
kind_text Aggregate = codes "v g"
kind_text Start = codes "s"
kind_text Theory = codes "x"
kind_text Kept = codes "k"
kind_text Temporary = codes "t"
kind_text Answer = codes "m"
kind_text Finish = codes "e"

-- a word has no space
abbrev pub IsWord : List ℕ → Type 0
IsWord word = All (λ b. b ≢ 32) word

-- a word ends before a space, or where the text ends
abbrev pub EndsWord : List ℕ → Type 0
EndsWord [] = Unit {0}
EndsWord (b ∷ bs) = b ≡ 32

abbrev pub HasNoColon : List ℕ → Type 0
HasNoColon text = All (λ b. b ≢ 58) text

-- what is printed as a number above 0
abbrev pub IsPositive : ℕ → Type 0
IsPositive n = (0 < n) × (n < 2 ^ 64)

-- a text behind a space
abbrev pub name_text : List ℕ → List ℕ
name_text name = 32 ∷ name

-- a text, and the numbers of what it rests on
abbrev pub declared_text : List ℕ × List ℕ → List ℕ
declared_text declared = 32 ∷ (declared.0 ++ codes " :" ++ numbers_text declared.1)

abbrev pub IsDeclared : List ℕ × List ℕ → Type 0
IsDeclared declared = IsInLine declared.0 × All IsThing declared.1

abbrev pub IsAggregate : List ℕ × List ℕ → Type 0
IsAggregate declared = IsInLine declared.0 × HasFunction declared.0 × All IsThing declared.1

-- whether an atom outside the base is assumed true, and the literals that a solve begins with
abbrev pub start_text : Bool × List Lit → List ℕ
start_text start = (if start.0 then codes " 0" else []) ++ literals_text start.1
