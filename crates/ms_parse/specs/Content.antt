-- What stands before the dot of a statement, and what readers of all of the words find.
use Rattle.std.specs.Prelude.{ℕ, suc, ◌*◌, ◌≢◌, ◌≡◌, nat_le, ◌==◌, if◌then◌else◌, List, [], ◌∷◌, ◌++◌, Option, Some, None, IfSome, AllPairs, codes}
use Rattle.std.specs.Option.{option_map}
use Rattle.ms_text.specs.declared.token.TokenKind.TheVariants.{Program, External, Const, Show, Include, Slash, Less, Greater, Equal}
use Rattle.ms_grammar.specs.declared.term.TextTerm.{TextTerm}
use Rattle.ms_grammar.specs.declared.statement.BodyLit.{BodyLit}
use Rattle.ms_grammar.specs.declared.statement.Form.{Form}
use Rattle.ms_grammar.specs.declared.statement.Form.TheVariants.{Program as ProgramForm, Const as ConstForm}
use Rattle.ms_grammar.specs.declared.statement.Statement.{Statement}
use Rattle.ms_grammar.specs.declared.part.Counted.{Counted}
use Rattle.ms_grammar.specs.declared.part.ValuePart.{ValuePart}
use Rattle.ms_grammar.specs.Words.{Word, name, number, sign}
use Rattle.ms_base.specs.Limits.{most_choices}
use Rattle.ms_grammar.specs.Values.{Spelling, value_words, value_part}
use Rattle.ms_grammar.specs.Statements.{Atom, atom_words, atom_spelled, Body, body_words, body_spelled, HeadPart, head_words, Tail, tail_words, tail_spelled, Parameters, parameters_words, parameter_names, rule_spelled, Sentence, rule, program, external, const, show, show_none, include, sentence_spelled, beside}

-- the words of a sentence before its dot
abbrev pub content_words : Sentence → List Word
content_words (rule head body) = head_words head ++ tail_words body
content_words (program n ps differ) = sign Program ∷ name n ∷ parameters_words ps
content_words (external a) = sign External ∷ atom_words a
content_words (const n v) = sign Const ∷ name n ∷ sign Equal ∷ value_words v
content_words (show p n) = sign Show ∷ name p ∷ sign Slash ∷ number n ∷ []
content_words show_none = sign Show ∷ []
content_words include = sign Include ∷ sign Less ∷ name (codes "incmode") ∷ sign Greater ∷ []

module _ (D V : Type 0) (words : D → List Word) (spelled : D → Option V) where
  -- The words, all of them, are spelled so, and the value is what they spell.
  pub record IsSpelled (ws : List Word) (value : V) : Type 0 where
    pub derivation : D
    pub words_are : words derivation ≡ ws
    pub spells : spelled derivation ≡ Some value

  -- What is found is what the words spell, and there is something where they spell something.
  pub record IsExact (ws : List Word) (found : Option V) : Type 0 where
    pub sound : IfSome found (IsSpelled ws)
    pub complete : (d : D) (value : V) → words d ≡ ws → spelled d ≡ Some value → found ≡ Some value

abbrev pub IsAtom : List Word → Option (Counted TextTerm) → Type 0
IsAtom = IsExact Atom (Counted TextTerm) atom_words atom_spelled

abbrev pub IsValue : List Word → Option ValuePart → Type 0
IsValue = IsExact Spelling ValuePart value_words value_part

abbrev pub IsBody : List Word → Option (Counted (List BodyLit)) → Type 0
IsBody = IsExact Body (Counted (List BodyLit)) body_words body_spelled

abbrev pub IsTail : List Word → Option (Counted (List BodyLit)) → Type 0
IsTail = IsExact Tail (Counted (List BodyLit)) tail_words tail_spelled

abbrev pub IsRule : List Word → Option (Counted Form) → Type 0
IsRule = IsExact (HeadPart × Tail) (Counted Form) (λ r. head_words r.0 ++ tail_words r.1) (λ r. rule_spelled r.0 r.1)

-- what follows `#const`
pub record ConstLine : Type 0 where
  pub constant : List ℕ
  pub spelling : Spelling

abbrev pub IsConstLine : List Word → Option Form → Type 0
IsConstLine = IsExact ConstLine Form
    (λ l. name l.constant ∷ sign Equal ∷ value_words l.spelling)
    (λ l. option_map (λ p. ConstForm l.constant p.value) (value_part l.spelling))

-- what follows `#program`
pub record ProgramLine : Type 0 where
  pub program_name : List ℕ
  pub params : Parameters
  pub differ : AllPairs (λ p q. p ≢ q) (parameter_names params)

abbrev pub IsProgramLine : List Word → Option Form → Type 0
IsProgramLine = IsExact ProgramLine Form
    (λ l. name l.program_name ∷ parameters_words l.params)
    (λ l. Some (ProgramForm l.program_name (parameter_names l.params)))

abbrev pub IsContent : List Word → Option (Counted Form) → Type 0
IsContent = IsExact Sentence (Counted Form) content_words sentence_spelled

-- what was found, where it has all of the words
abbrev pub whole : {V : Type 0} → Option (V × ℕ) → ℕ → Option V
whole None len = None
whole (Some found) len = if found.1 == len then Some found.0 else None

-- the parts of a body, and one more
abbrev pub with_part : Counted (List BodyLit) → Counted BodyLit → Counted (List BodyLit)
with_part = beside (λ parts part. parts ++ part ∷ [])

-- a form as a statement that begins in a line, where its copies are few
abbrev pub statement_from : Option (Counted Form) → ℕ → Option Statement
statement_from None line = None
statement_from (Some c) line = if nat_le (c.choices * suc c.elements) most_choices then Some (record { line = line; form = c.value }) else None
