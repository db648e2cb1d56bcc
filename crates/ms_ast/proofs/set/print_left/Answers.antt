use Rattle.std.proofs.Common.{◌++◌, ap, ◌∙◌}
use Rattle.ms_ast.specs.Ink.{ink_text}
use Rattle.ms_ast.specs.Terms.{term_ink}
use Rattle.ms_ast.proofs.TermTexts.{two_appended}
use Rattle.ms_ast.proofs.FormTexts.{left_text}
use Rattle.ms_ast.proofs.set.print_left.Goals as goal

pub returns : goal.returns
returns c = two_appended _ _ _ _ _ _ c.in_ok-print_term.ensures c.in_ok-extend_from_slice.ensures.items
    (ap (λ s. ink_text (term_ink c.in-Some.guard.bound) ++ s) c.cmp_text.ensures ∙ left_text c.args.guard.now c.in-Some.guard c.in-Some.is)
