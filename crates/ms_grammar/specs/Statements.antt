-- The grammar of statements, and the statements of a text.
-- Source: the ASP-Core-2 input language format, with the directives of clingo 5, in a profile of this project.
use Rattle.std.specs.Prelude.{ℕ, suc, ◌≡◌, ◌≢◌, ◌≤◌, ◌+◌, ◌*◌, ◌⊎◌, nat_le, Bool, true, false, if◌then◌else◌, List, [], ◌∷◌, ◌++◌, map, Option, Some, None, Ok, Err, AllPairs, codes}
use Rattle.std.specs.Option.{option_map, option_and_then}
use Rattle.ms_text.specs.declared.token.Token.{Token}
use Rattle.ms_text.specs.declared.token.TokenKind.{TokenKind}
use Rattle.ms_text.specs.declared.token.TokenKind.TheVariants.{Not, Program, External, Const, Show, Include, Count, Sum, Dot, Comma, Semicolon, Colon, If, LeftParen, RightParen, LeftBrace, RightBrace, Slash, Equal, EqualEqual, NotEqual, LessGreater, Less, LessEqual, Greater, GreaterEqual}
use Rattle.ms_text.specs.Tokens.{tokens_of}
use Rattle.ms_grammar.specs.declared.term.TextTerm.{TextTerm}
use Rattle.ms_grammar.specs.declared.statement.Cmp.{Cmp}
use Rattle.ms_grammar.specs.declared.statement.Cmp.TheVariants.{Eq, Ne, Lt, Le, Gt, Ge}
use Rattle.ms_grammar.specs.declared.statement.AggFn.{AggFn}
use Rattle.ms_grammar.specs.declared.statement.AggFn.TheVariants.{Count as count, Sum as sum}
use Rattle.ms_grammar.specs.declared.statement.TextLit.{TextLit}
use Rattle.ms_grammar.specs.declared.statement.TextLit.TheVariants.{Positive, Negated, Test}
use Rattle.ms_grammar.specs.declared.statement.TextGuard.{TextGuard}
use Rattle.ms_grammar.specs.declared.statement.SetElement.{SetElement}
use Rattle.ms_grammar.specs.declared.statement.TextSet.{TextSet}
use Rattle.ms_grammar.specs.declared.statement.AggElement.{AggElement}
use Rattle.ms_grammar.specs.declared.statement.TextAgg.{TextAgg}
use Rattle.ms_grammar.specs.declared.statement.Head.{Head as HeadForm}
use Rattle.ms_grammar.specs.declared.statement.Head.TheVariants.{Empty, Atom as HeadAtom, Set as HeadSet}
use Rattle.ms_grammar.specs.declared.statement.BodyLit.{BodyLit}
use Rattle.ms_grammar.specs.declared.statement.BodyLit.TheVariants.{Lit, Set as BodySet, Agg as BodyAgg}
use Rattle.ms_grammar.specs.declared.statement.Form.{Form}
use Rattle.ms_grammar.specs.declared.statement.Form.TheVariants.{Rule, Program as ProgramForm, External as ExternalForm, Const as ConstForm, Show as ShowForm, ShowNone, IncludeIncmode}
use Rattle.ms_grammar.specs.declared.statement.Statement.{Statement}
use Rattle.ms_grammar.specs.declared.part.Part.{Part}
use Rattle.ms_grammar.specs.declared.part.Counted.{Counted}
use Rattle.ms_grammar.specs.Words.{Word, name, number, sign, words_of, separated}
use Rattle.ms_base.specs.Limits.{most_height, most_choices}
use Rattle.ms_grammar.specs.Terms.{Term, Lists, term_words, term_part, primary_words, primary_part, constant, function, greatest_numeral, counted, both}
use Rattle.ms_grammar.specs.Values.{Spelling, value_words, value_part}

abbrev pub alone : {T : Type 0} → T → Counted T
alone x = record { value = x; choices = 1; elements = 0 }

abbrev pub with_value : {T U : Type 0} → (T → U) → Counted T → Counted U
with_value f c = record { value = f c.value; choices = c.choices; elements = c.elements }

-- two side by side
abbrev pub beside : {T U V : Type 0} → (T → U → V) → Counted T → Counted U → Counted V
beside f c d = record { value = f c.value d.value; choices = counted (c.choices * d.choices); elements = counted (c.elements + d.elements) }

abbrev pub join : {T U V : Type 0} → (T → U → V) → Option (Counted T) → Option (Counted U) → Option (Counted V)
join f c d = both (λ x y. Some (beside f x y)) c d

-- all of a list, from left to right
abbrev pub row_of : {D T : Type 0} → (D → Option (Counted T)) → List D → Option (Counted (List T))
row_of spelled [] = Some (alone [])
row_of spelled (d ∷ ds) = join (λ x xs. x ∷ xs) (spelled d) (row_of spelled ds)

-- a term of a statement isn't higher than a term may be
abbrev pub bounded : Part → Option (Counted TextTerm)
bounded p = if nat_le p.height most_height then Some (record { value = p.term; choices = p.choices; elements = 0 }) else None

abbrev pub term_spelled : Term → Option (Counted TextTerm)
term_spelled t = option_and_then bounded (term_part t)

-- atom = name ["(" args {";" args} ")"]
pub data Atom : Type 0 where
  plain : List ℕ → Atom
  applied : List ℕ → Lists → Atom

abbrev pub atom_words : Atom → List Word
atom_words (plain p) = primary_words (constant p)
atom_words (applied p lists) = primary_words (function p lists)

-- an atom's own node isn't counted
abbrev pub as_atom : Part → Counted TextTerm
as_atom p = record { value = p.term; choices = p.choices; elements = 0 }

abbrev pub atom_spelled : Atom → Option (Counted TextTerm)
atom_spelled (plain p) = option_map as_atom (primary_part (constant p))
atom_spelled (applied p lists) = option_map as_atom (primary_part (function p lists))

-- cmp = "=" | "==" | "!=" | "<>" | "<" | "<=" | ">" | ">="
abbrev pub cmp_of : TokenKind → Option Cmp
cmp_of Equal = Some Eq
cmp_of EqualEqual = Some Eq
cmp_of NotEqual = Some Ne
cmp_of LessGreater = Some Ne
cmp_of Less = Some Lt
cmp_of LessEqual = Some Le
cmp_of Greater = Some Gt
cmp_of GreaterEqual = Some Ge
cmp_of kind = None

-- lit = atom | "not" atom | term cmp term
pub data Literal : Type 0 where
  positive : Atom → Literal
  negated : Atom → Literal
  test : Term → TokenKind → Term → Literal

abbrev pub literal_words : Literal → List Word
literal_words (positive a) = atom_words a
literal_words (negated a) = sign Not ∷ atom_words a
literal_words (test l kind r) = term_words l ++ sign kind ∷ term_words r

abbrev pub literal_spelled : Literal → Option (Counted TextLit)
literal_spelled (positive a) = option_map (with_value Positive) (atom_spelled a)
literal_spelled (negated a) = option_map (with_value Negated) (atom_spelled a)
literal_spelled (test l kind r) = option_and_then (λ cmp. join (λ t u. Test t cmp u) (term_spelled l) (term_spelled r)) (cmp_of kind)

-- [":" [lits]], where lits = lit {"," lit}
pub data Conditions : Type 0 where
  no_colon : Conditions
  colon : List Literal → Conditions

abbrev pub conditions_words : Conditions → List Word
conditions_words no_colon = []
conditions_words (colon literals) = sign Colon ∷ separated (sign Comma) (map literal_words literals)

abbrev pub conditions_spelled : Conditions → Option (Counted (List TextLit))
conditions_spelled no_colon = Some (alone [])
conditions_spelled (colon literals) = row_of literal_spelled literals

-- the choices of an element that has a pool are copies of its own, and no choices of the rule
abbrev pub as_element : {T : Type 0} → Counted T → Counted T
as_element c = record { value = c.value; choices = 1; elements = if nat_le c.choices 1 then 0 else c.choices }

-- celem = atom [":" [lits]]
pub record SetPart : Type 0 where
  pub atom : Atom
  pub conditions : Conditions

abbrev pub set_part_words : SetPart → List Word
set_part_words e = atom_words e.atom ++ conditions_words e.conditions

abbrev pub set_part_spelled : SetPart → Option (Counted SetElement)
set_part_spelled e = option_map as_element (join (λ a conds. record { atom = a; conds = conds }) (atom_spelled e.atom) (conditions_spelled e.conditions))

-- elem = term {"," term} [":" [lits]]
pub record TuplePart : Type 0 where
  pub first : Term
  pub more : List Term
  pub conditions : Conditions

abbrev pub tuple_part_words : TuplePart → List Word
tuple_part_words e = separated (sign Comma) (map term_words (e.first ∷ e.more)) ++ conditions_words e.conditions

abbrev pub tuple_part_spelled : TuplePart → Option (Counted AggElement)
tuple_part_spelled e = option_map as_element (join (λ tuple conds. record { tuple = tuple; conds = conds }) (row_of term_spelled (e.first ∷ e.more)) (conditions_spelled e.conditions))

-- a term with a comparison, or without one, which then is `<=`
pub data Guard : Type 0 where
  bare : Term → Guard
  signed : Term → TokenKind → Guard

-- [term [cmp]]
abbrev pub left_words : Option Guard → List Word
left_words None = []
left_words (Some (bare t)) = term_words t
left_words (Some (signed t kind)) = term_words t ++ sign kind ∷ []

-- [[cmp] term]
abbrev pub right_words : Option Guard → List Word
right_words None = []
right_words (Some (bare t)) = term_words t
right_words (Some (signed t kind)) = sign kind ∷ term_words t

abbrev pub guard_spelled : Option Guard → Option (Counted (Option TextGuard))
guard_spelled None = Some (alone None)
guard_spelled (Some (bare t)) = option_map (with_value (λ t. Some (record { cmp = Le; bound = t }))) (term_spelled t)
guard_spelled (Some (signed t kind)) = option_and_then (λ cmp. option_map (with_value (λ t. Some (record { cmp = cmp; bound = t }))) (term_spelled t)) (cmp_of kind)

-- set = [term [cmp]] "{" [celem {";" celem}] "}" [[cmp] term]
pub record Choice : Type 0 where
  pub left : Option Guard
  pub elements : List SetPart
  pub right : Option Guard

abbrev pub choice_words : Choice → List Word
choice_words s = left_words s.left ++ sign LeftBrace ∷ separated (sign Semicolon) (map set_part_words s.elements) ++ sign RightBrace ∷ right_words s.right

abbrev pub set_from : Option TextGuard → List SetElement × Option TextGuard → TextSet
set_from left rest = record { left = left; elements = rest.0; right = rest.1 }

abbrev pub choice_spelled : Choice → Option (Counted TextSet)
choice_spelled s =
    join set_from (guard_spelled s.left)
    (join (λ elements right. (elements, right)) (row_of set_part_spelled s.elements) (guard_spelled s.right))

-- "#count" | "#sum"
abbrev pub function_kind : AggFn → TokenKind
function_kind count = Count
function_kind sum = Sum

-- agg = [term [cmp]] ("#count" | "#sum") "{" [elem {";" elem}] "}" [[cmp] term]
pub record Aggregate : Type 0 where
  pub function_is : AggFn
  pub left : Option Guard
  pub elements : List TuplePart
  pub right : Option Guard

abbrev pub aggregate_words : Aggregate → List Word
aggregate_words a = left_words a.left ++ sign (function_kind a.function_is) ∷ sign LeftBrace ∷ separated (sign Semicolon) (map tuple_part_words a.elements) ++ sign RightBrace ∷ right_words a.right

abbrev pub aggregate_from : AggFn → Option TextGuard → List AggElement × Option TextGuard → TextAgg
aggregate_from of left rest = record { function = of; left = left; elements = rest.0; right = rest.1 }

abbrev pub aggregate_spelled : Aggregate → Option (Counted TextAgg)
aggregate_spelled a =
    join (aggregate_from a.function_is) (guard_spelled a.left)
    (join (λ elements right. (elements, right)) (row_of tuple_part_spelled a.elements) (guard_spelled a.right))

-- blit = lit | ["not"] agg
pub data BodyPart : Type 0 where
  literal : Literal → BodyPart
  choice : (with_not : Bool) → Choice → BodyPart
  aggregate : (with_not : Bool) → Aggregate → BodyPart

abbrev pub not_words : Bool → List Word
not_words true = sign Not ∷ []
not_words false = []

abbrev pub body_part_words : BodyPart → List Word
body_part_words (literal l) = literal_words l
body_part_words (choice with_not s) = not_words with_not ++ choice_words s
body_part_words (aggregate with_not a) = not_words with_not ++ aggregate_words a

abbrev pub body_part_spelled : BodyPart → Option (Counted BodyLit)
body_part_spelled (literal l) = option_map (with_value Lit) (literal_spelled l)
body_part_spelled (choice with_not s) = option_map (with_value (BodySet with_not)) (choice_spelled s)
body_part_spelled (aggregate with_not a) = option_map (with_value (BodyAgg with_not)) (aggregate_spelled a)

-- body = blit {("," | ";") blit}, where `true` stands for ","
pub record Body : Type 0 where
  pub first : BodyPart
  pub more : List (Bool × BodyPart)

abbrev pub separator : Bool → Word
separator true = sign Comma
separator false = sign Semicolon

abbrev pub more_words : List (Bool × BodyPart) → List Word
more_words [] = []
more_words (part ∷ parts) = separator part.0 ∷ body_part_words part.1 ++ more_words parts

abbrev pub body_words : Body → List Word
body_words b = body_part_words b.first ++ more_words b.more

abbrev pub body_spelled : Body → Option (Counted (List BodyLit))
body_spelled b = row_of body_part_spelled (b.first ∷ map (λ part. part.1) b.more)

-- head = atom | set
pub data HeadPart : Type 0 where
  no_head : HeadPart
  atom_head : Atom → HeadPart
  choice_head : Choice → HeadPart

abbrev pub head_words : HeadPart → List Word
head_words no_head = []
head_words (atom_head a) = atom_words a
head_words (choice_head s) = choice_words s

abbrev pub head_spelled : HeadPart → Option (Counted HeadForm)
head_spelled no_head = Some (alone Empty)
head_spelled (atom_head a) = option_map (with_value HeadAtom) (atom_spelled a)
head_spelled (choice_head s) = option_map (with_value HeadSet) (choice_spelled s)

-- [":-" [body]]
pub data Tail : Type 0 where
  no_tail : Tail
  empty_tail : Tail
  tail : Body → Tail

abbrev pub tail_words : Tail → List Word
tail_words no_tail = []
tail_words empty_tail = sign If ∷ []
tail_words (tail b) = sign If ∷ body_words b

abbrev pub tail_spelled : Tail → Option (Counted (List BodyLit))
tail_spelled no_tail = Some (alone [])
tail_spelled empty_tail = Some (alone [])
tail_spelled (tail b) = body_spelled b

-- what follows a name in the line of `#program`
pub data Parameters : Type 0 where
  no_parameters : Parameters
  parameters : List (List ℕ) → Parameters

abbrev pub parameters_words : Parameters → List Word
parameters_words no_parameters = []
parameters_words (parameters names) = sign LeftParen ∷ separated (sign Comma) (map (λ n. name n ∷ []) names) ++ sign RightParen ∷ []

abbrev pub parameter_names : Parameters → List (List ℕ)
parameter_names no_parameters = []
parameter_names (parameters names) = names

-- statement = [head] [":-" [body]] "." | directive "."
pub data Sentence : Type 0 where
  rule : HeadPart → Tail → Sentence
  program : List ℕ → (ps : Parameters) → AllPairs (λ p q. p ≢ q) (parameter_names ps) → Sentence
  external : Atom → Sentence
  const : List ℕ → Spelling → Sentence
  show : List ℕ → ℕ → Sentence
  show_none : Sentence
  include : Sentence

abbrev pub sentence_words : Sentence → List Word
sentence_words (rule head body) = head_words head ++ tail_words body ++ sign Dot ∷ []
sentence_words (program n ps differ) = sign Program ∷ name n ∷ parameters_words ps ++ sign Dot ∷ []
sentence_words (external a) = sign External ∷ atom_words a ++ sign Dot ∷ []
sentence_words (const n v) = sign Const ∷ name n ∷ sign Equal ∷ value_words v ++ sign Dot ∷ []
sentence_words (show p n) = sign Show ∷ name p ∷ sign Slash ∷ number n ∷ sign Dot ∷ []
sentence_words show_none = sign Show ∷ sign Dot ∷ []
sentence_words include = sign Include ∷ sign Less ∷ name (codes "incmode") ∷ sign Greater ∷ sign Dot ∷ []

-- a rule isn't the lone "."
abbrev pub rule_spelled : HeadPart → Tail → Option (Counted Form)
rule_spelled no_head no_tail = None
rule_spelled head body = join (λ h b. Rule h b) (head_spelled head) (tail_spelled body)

abbrev pub sentence_spelled : Sentence → Option (Counted Form)
sentence_spelled (rule head body) = rule_spelled head body
sentence_spelled (program n ps differ) = Some (alone (ProgramForm n (parameter_names ps)))
sentence_spelled (external a) = option_map (with_value ExternalForm) (atom_spelled a)
sentence_spelled (const n v) = option_map (λ p. alone (ConstForm n p.value)) (value_part v)
sentence_spelled (show p n) = if nat_le n greatest_numeral then Some (alone (ShowForm p n)) else None
sentence_spelled show_none = Some (alone ShowNone)
sentence_spelled include = Some (alone IncludeIncmode)

-- The copies that pools make of a statement: its rules, and for each of them the copies of elements with a
-- pool. There are no more than a statement may have.
abbrev pub HasFewCopies : {T : Type 0} → Counted T → Type 0
HasFewCopies c = c.choices * suc c.elements ≤ most_choices

-- The words spell the form.
pub record Spells (words : List Word) (form : Form) : Type 0 where
  pub sentence : Sentence
  pub words_are : sentence_words sentence ≡ words
  pub counts : Counted Form
  pub spelled : sentence_spelled sentence ≡ Some counts
  pub value_is : counts.value ≡ form
  pub few : HasFewCopies counts

-- the line of the first token
abbrev pub first_line : List Token → ℕ
first_line [] = 0
first_line (t ∷ ts) = t.line

-- The tokens spell the statement.
pub record IsStatement (text : List ℕ) (piece : List Token) (statement : Statement) : Type 0 where
  pub spells : Spells (words_of text piece) statement.form
  pub line : statement.line ≡ first_line piece

abbrev pub in_first : Token → List (List Token) → List (List Token)
in_first t [] = (t ∷ []) ∷ []
in_first t (piece ∷ pieces) = (t ∷ piece) ∷ pieces

abbrev pub before_pieces : TokenKind → Token → List (List Token) → List (List Token)
before_pieces Dot t pieces = (t ∷ []) ∷ pieces
before_pieces kind t pieces = in_first t pieces

-- The tokens are cut after each dot. What follows the last dot is a piece too.
unfoldable pub pieces_of : List Token → List (List Token)
pieces_of [] = []
pieces_of (t ∷ ts) = before_pieces t.kind t (pieces_of ts)

-- each piece is the statement at its place
unfoldable pub AreStatements : List ℕ → List (List Token) → List Statement → Type 0
AreStatements text [] [] = Unit {0}
AreStatements text (piece ∷ pieces) (s ∷ ss) = IsStatement text piece s × AreStatements text pieces ss
AreStatements text [] (s ∷ ss) = ⊥
AreStatements text (piece ∷ pieces) [] = ⊥

-- the line at which the first piece begins that is no statement
unfoldable pub IsBadLine : List ℕ → List (List Token) → ℕ → Type 0
IsBadLine text [] line = ⊥
IsBadLine text (piece ∷ pieces) line =
    (((s : Statement) → IsStatement text piece s → ⊥) × (line ≡ first_line piece))
    ⊎ ((s : Statement) × IsStatement text piece s × IsBadLine text pieces line)

-- The text is in the grammar, with these statements.
abbrev pub Reads : List ℕ → List Statement → Type 0
Reads text statements = (tokens : List Token) × (tokens_of text ≡ Ok tokens) × AreStatements text (pieces_of tokens) statements

-- The text isn't in the grammar, and this is the line of the first byte that begins no token or, where
-- each byte is in a token, of the first piece that is no statement.
abbrev pub IsNoText : List ℕ → ℕ → Type 0
IsNoText text line = elim (tokens_of text) [
  | Err bad ↦ bad.line ≡ line
  | Ok tokens ↦ IsBadLine text (pieces_of tokens) line
]
