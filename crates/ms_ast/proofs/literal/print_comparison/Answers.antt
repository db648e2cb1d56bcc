use Rattle.std.proofs.Common.{◌++◌, ap, ◌∙◌}
use Rattle.ms_ast.specs.Ink.{ink_text, apart}
use Rattle.ms_ast.specs.Terms.{term_ink}
use Rattle.ms_ast.specs.Statements.{cmp_kind}
use Rattle.ms_ast.proofs.TermTexts.{three_appended}
use Rattle.ms_ast.proofs.FormTexts.{three_ink}
use Rattle.ms_ast.proofs.literal.print_comparison.Goals as goal

pub returns : goal.returns
returns c = three_appended _ _ _ _ _ _ _ _ c.in_ok-print_term.ensures c.in_ok-extend_from_slice.ensures.items c.in_ok-print_term-2.ensures
    (ap (λ s. ink_text (term_ink c.args.left.now) ++ (s ++ ink_text (term_ink c.args.right.now))) c.cmp_text.ensures
    ∙ three_ink (term_ink c.args.left.now) (apart (cmp_kind c.args.cmp)) (term_ink c.args.right.now))
