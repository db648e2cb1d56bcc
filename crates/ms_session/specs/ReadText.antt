-- What reading a text answers, against the grammar.
use Rattle.std.specs.Prelude.{ℕ, List, Result, Ok, Err, ⊤}
use Rattle.ms_grammar.specs.declared.statement.Statement.{Statement}
use Rattle.ms_grammar.specs.Statements.{Reads, IsNoText}
use Rattle.ms_session.specs.declared.text.TextFault.{TextFault}
use Rattle.ms_session.specs.declared.text.TextFault.TheVariants.{Syntax, OutOfMemory}

abbrev pub ReadsAs : Result (List Statement) TextFault → List ℕ → Type 0
ReadsAs (Ok statements) text = Reads text statements
ReadsAs (Err (Syntax line)) text = IsNoText text line
-- want of memory may come at any time
ReadsAs (Err OutOfMemory) text = ⊤
