-- The definitions at worked examples.
use Rattle.std.proofs.Common.{◌≡◌, refl}
use Rattle.std.specs.Prelude.{codes}
use Rattle.ms_grammar.specs.declared.statement.Form.TheVariants.{ShowNone, IncludeIncmode}
use Rattle.ms_ast.specs.Statements.{statement_text}

nothing_shown : statement_text ShowNone ≡ codes "#show."
nothing_shown = refl

steps : statement_text IncludeIncmode ≡ codes "#include <incmode>."
steps = refl
