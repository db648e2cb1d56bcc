-- What is printed is read back.
use Rattle.std.specs.Prelude.{ℕ, ◌≡◌, List, [], ◌∷◌, Ok, Some, length, ⊤}
use Rattle.ms_text.specs.declared.token.Token.{Token}
use Rattle.ms_text.specs.declared.token.TokenKind.TheVariants.{Name}
use Rattle.ms_text.specs.Tokens.{tokens_of, name_len, name_kind}
use Rattle.ms_grammar.specs.declared.statement.Form.{Form}
use Rattle.ms_grammar.specs.declared.statement.Statement.{Statement}
use Rattle.ms_grammar.specs.Words.{Word, name, words_of}
use Rattle.ms_grammar.specs.Statements.{Spells, pieces_of, first_line}

-- the bytes are a name other than `not`
pub record IsName (f : List ℕ) : Type 0 where
  pub all_of_it : name_len f ≡ Some (length f)
  pub no_word : name_kind f ≡ Name

-- the names among the words are names that a text can have
abbrev pub HaveNames : List Word → Type 0
HaveNames [] = ⊤
HaveNames (name f ∷ ws) = IsName f × HaveNames ws
HaveNames (w ∷ ws) = HaveNames ws

-- Some words, as a text can have them, spell the form.
pub record IsInGrammar (form : Form) : Type 0 where
  pub words : List Word
  pub names : HaveNames words
  pub spells : Spells words form

-- Each is one that the grammar has. The statements that a text reads as are: proofs/FromText.
abbrev pub AreInGrammar : List Statement → Type 0
AreInGrammar [] = ⊤
AreInGrammar (s ∷ ss) = IsInGrammar s.form × AreInGrammar ss

-- The text has tokens, which are one piece from the first line on, and their words spell the form and no other.
pub record IsReadAs (text : List ℕ) (form : Form) : Type 0 where
  pub tokens : List Token
  pub has_tokens : tokens_of text ≡ Ok tokens
  pub one_piece : pieces_of tokens ≡ tokens ∷ []
  pub begins : first_line tokens ≡ 1
  pub spells : Spells (words_of text tokens) form
  pub only : (other : Form) → Spells (words_of text tokens) other → other ≡ form
