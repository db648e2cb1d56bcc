use Rattle.std.proofs.Common.{◌++◌, sym, ap, ◌∙◌}
use Rattle.ms_ast.specs.Ink.{ink_text}
use Rattle.ms_ast.specs.Terms.{term_ink}
use Rattle.ms_ast.specs.Statements.{conditions_ink}
use Rattle.ms_ast.proofs.Inks.{ink_text_append}
use Rattle.ms_ast.proofs.TermTexts.{two_appended}
use Rattle.ms_ast.proofs.set.print_set_element.Goals as goal

pub returns : goal.returns
returns c = two_appended _ _ _ _ _ _ c.in_ok-print_term.ensures c.in_ok-print_conditions.ensures
    (ap (λ ls. ink_text (term_ink c.args.element.now.atom) ++ ink_text (conditions_ink ls)) c.as_slice.ensures ∙ sym (ink_text_append (term_ink c.args.element.now.atom) (conditions_ink c.args.element.now.conds)))
