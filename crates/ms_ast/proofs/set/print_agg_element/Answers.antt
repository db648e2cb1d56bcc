use Rattle.std.proofs.Common.{◌++◌, map, sym, ap, ◌∙◌}
use Rattle.ms_ast.specs.Ink.{ink_text, side_by_side, comma}
use Rattle.ms_ast.specs.Terms.{printed, term_ink, list_ink}
use Rattle.ms_ast.specs.Statements.{conditions_ink}
use Rattle.ms_ast.proofs.Inks.{ink_text_append}
use Rattle.ms_ast.proofs.TermTexts.{two_appended}
use Rattle.ms_ast.proofs.FormTexts.{tuple_ink}
use Rattle.ms_ast.proofs.set.print_agg_element.Goals as goal

pub returns : goal.returns
returns c = two_appended _ _ _ _ _ _ c.in_ok-print_list.ensures c.in_ok-print_conditions.ensures
    (ap (λ ts. ink_text (list_ink (map printed ts)) ++ ink_text (conditions_ink c.as_slice-2.result.now)) c.as_slice.ensures
    ∙ ap (λ ls. ink_text (list_ink (map printed c.args.element.now.tuple)) ++ ink_text (conditions_ink ls)) c.as_slice-2.ensures
    ∙ ap (λ is. ink_text is ++ ink_text (conditions_ink c.args.element.now.conds)) (tuple_ink c.args.element.now.tuple)
    ∙ sym (ink_text_append (side_by_side comma (map term_ink c.args.element.now.tuple)) (conditions_ink c.args.element.now.conds)))
