-- Which words after a command's word say which command.
use Rattle.std.specs.Prelude.{ℕ, ◌≡◌, ◌≢◌, ◌≤◌, ◌⊎◌, ⊤, Bool, true, false, List, [], ◌∷◌, ◌++◌, Some, codes}
use Rattle.ms_base.specs.Limits.{most_answers, usual_limit, greatest_limit}
use Rattle.ms_text.specs.declared.token.TokenKind.TheVariants.{Not, Comma, LeftParen, RightParen, Equal}
use Rattle.ms_grammar.specs.declared.value.Value.{Value}
use Rattle.ms_grammar.specs.declared.part.ValuePart.{ValuePart}
use Rattle.ms_grammar.specs.Words.{Word, name, number, sign}
use Rattle.ms_grammar.specs.Values.{Spelling, value_words, value_part}
use Rattle.ms_call.specs.declared.command.Call.{Call}
use Rattle.ms_base.specs.declared.truth.Truth.{Truth}
use Rattle.ms_base.specs.declared.truth.Truth.TheVariants.{True, False, Free}
use Rattle.ms_call.specs.declared.command.Assumption.{Assumption}
use Rattle.ms_call.specs.declared.command.Command.{Command}
use Rattle.ms_call.specs.declared.command.Command.TheVariants.{Add, Ground, Assign, Release, Solve}

-- The words, all of them, spell the value.
pub record IsValue (ws : List Word) (value : Value) : Type 0 where
  pub spelling : Spelling
  pub part : ValuePart
  pub words_are : value_words spelling ≡ ws
  pub spells : value_part spelling ≡ Some part
  pub value_is : part.value ≡ value

abbrev pub BeginsWithName : List Word → Type 0
BeginsWithName [] = ⊥
BeginsWithName (name f ∷ ws) = Unit {0}
BeginsWithName (w ∷ ws) = ⊥

-- A ground atom is a value that begins with a name.
pub record IsAtom (ws : List Word) (atom : Value) : Type 0 where
  pub begins : BeginsWithName ws
  pub value : IsValue ws atom

abbrev pub sign_words : Bool → List Word
sign_words true = []
sign_words false = sign Not ∷ []

-- an atom, or `not` and an atom
pub record IsLiteral (ws : List Word) (literal : Assumption) : Type 0 where
  pub atom_words : List Word
  pub words_are : ws ≡ sign_words literal.truth ++ atom_words
  pub atom_is : IsAtom atom_words literal.atom

-- values with commas between them
abbrev pub AreArguments : List Word → List Value → Type 0
AreArguments ws [] = ws ≡ []
AreArguments ws (v ∷ []) = IsValue ws v
AreArguments ws (v ∷ u ∷ us) = (first : List Word) × (rest : List Word) × (ws ≡ first ++ sign Comma ∷ rest) × IsValue first v × AreArguments rest (u ∷ us)

-- a name, or a name with values in parentheses
abbrev pub IsCall : List Word → Call → Type 0
IsCall ws call =
    ((ws ≡ name call.name ∷ []) × (call.args ≡ []))
    ⊎ ((inside : List Word) × (ws ≡ name call.name ∷ sign LeftParen ∷ inside ++ sign RightParen ∷ []) × AreArguments inside call.args)

-- one after another
abbrev pub AreJoined : {V : Type 0} → (List Word → V → Type 0) → List Word → List V → Type 0
AreJoined Is ws [] = ws ≡ []
AreJoined Is ws (v ∷ vs) = (first : List Word) × (rest : List Word) × (ws ≡ first ++ rest) × Is first v × AreJoined Is rest vs

-- one or more, one after another
abbrev pub AreSome : {V : Type 0} → (List Word → V → Type 0) → List Word → List V → Type 0
AreSome Is ws vs = (vs ≢ []) × AreJoined Is ws vs

abbrev pub truth_name : Truth → List ℕ
truth_name True = codes "true"
truth_name False = codes "false"
truth_name Free = codes "free"

-- a number, or the most by `all`
abbrev pub IsCount : Word → ℕ → Type 0
IsCount w count =
    ((w ≡ number count) × (1 ≤ count) × (count ≤ most_answers))
    ⊎ ((w ≡ name (codes "all")) × (count ≡ most_answers))

-- `limit=L`, or nothing
abbrev pub IsLimit : List Word → ℕ → Type 0
IsLimit ws limit =
    ((ws ≡ name (codes "limit") ∷ sign Equal ∷ number limit ∷ []) × (1 ≤ limit) × (limit ≤ greatest_limit))
    ⊎ ((ws ≡ []) × (limit ≡ usual_limit))

-- `with` and one or more literals, or nothing
abbrev pub IsAssume : List Word → List Assumption → Type 0
IsAssume ws assume =
    ((literals : List Word) × (ws ≡ name (codes "with") ∷ literals) × AreSome IsLiteral literals assume)
    ⊎ ((ws ≡ []) × (assume ≡ []))

pub record IsAssign (ws : List Word) (atom : Value) (truth : Truth) : Type 0 where
  pub atom_words : List Word
  pub words_are : ws ≡ atom_words ++ name (truth_name truth) ∷ []
  pub atom_is : IsAtom atom_words atom

pub record IsSolve (ws : List Word) (count limit : ℕ) (assume : List Assumption) : Type 0 where
  pub count_word : Word
  pub limit_words : List Word
  pub assume_words : List Word
  pub words_are : ws ≡ count_word ∷ limit_words ++ assume_words
  pub count_is : IsCount count_word count
  pub limit_is : IsLimit limit_words limit
  pub assume_is : IsAssume assume_words assume

-- The command's word and the words after it say the command. A text has lines of its own.
abbrev pub IsSaid : List ℕ → List Word → Command → Type 0
IsSaid word ws (Add text) = ⊥
IsSaid word ws (Ground calls) = (word ≡ codes "ground") × AreSome IsCall ws calls
IsSaid word ws (Assign atom truth) = (word ≡ codes "assign") × IsAssign ws atom truth
IsSaid word ws (Release atom) = (word ≡ codes "release") × IsAtom ws atom
IsSaid word ws (Solve count limit assume) = (word ≡ codes "solve") × IsSolve ws count limit assume

-- a solve asks for at least one answer set
abbrev pub AsksForSome : Command → Type 0
AsksForSome (Solve count limit assume) = 1 ≤ count
AsksForSome command = ⊤
