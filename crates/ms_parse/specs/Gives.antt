-- What `parse` answers, against the statements of the pieces.
use Rattle.std.specs.Prelude.{ℕ, ◌≡◌, List, Result, Ok, Err, ⊤}
use Rattle.ms_text.specs.declared.token.Token.{Token}
use Rattle.ms_grammar.specs.declared.statement.Statement.{Statement}
use Rattle.ms_grammar.specs.Statements.{AreStatements, IsBadLine, pieces_of}
use Rattle.ms_parse.specs.declared.ParseFault.{ParseFault}
use Rattle.ms_parse.specs.declared.ParseFault.TheVariants.{BadStatement, OutOfMemory}

-- The pieces are these statements, and no others.
pub record AreExactly (text : List ℕ) (pieces : List (List Token)) (statements : List Statement) : Type 0 where
  pub are : AreStatements text pieces statements
  pub only : (others : List Statement) → AreStatements text pieces others → others ≡ statements

abbrev pub Gives : Result (List Statement) ParseFault → List ℕ → List Token → Type 0
Gives (Ok statements) text tokens = AreExactly text (pieces_of tokens) statements
Gives (Err (BadStatement line)) text tokens = IsBadLine text (pieces_of tokens) line
-- want of memory may come at any time
Gives (Err OutOfMemory) text tokens = ⊤
