use Rattle.std.proofs.Common.{[], ◌∷◌, sym}
use Rattle.ms_ast.specs.Ink.{mark}
use Rattle.ms_ast.specs.Statements.{form_ink}
use Rattle.ms_ast.proofs.Inks.{ink_text_append}
use Rattle.ms_ast.proofs.TermTexts.{two_appended}
use Rattle.ms_text.specs.declared.token.TokenKind.TheVariants.{Dot}
use Rattle.ms_ast.proofs.form.print_statement.Goals as goal

pub returns : goal.returns
returns c = two_appended _ _ _ _ _ _ c.in_ok-print_form.ensures c.in_ok-push.ensures.items (sym (ink_text_append (form_ink c.args.form.now) (mark Dot ∷ [])))
