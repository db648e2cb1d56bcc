use Rattle.std.proofs.Common.{[], ◌∷◌, ◌++◌, map, sym, ap, ◌∙◌}
use Rattle.ms_ast.specs.Ink.{ink_text, side_by_side, comma}
use Rattle.ms_ast.specs.Values.{value_ink}
use Rattle.ms_ast.proofs.Inks.{side_text}
use Rattle.ms_ast.proofs.TermTexts.{four_appended}
use Rattle.ms_ast.proofs.FormTexts.{function_text}
use Rattle.ms_ast.proofs.value.+print.Goals as goal

pub print_values-loop-value-init : goal.print_values-loop-value-init
print_values-loop-value-init t c = rw c.as_slice-between.ensures (ap (λ s. c.args.into.now.items ++ s) (sym (side_text comma value_ink c.args.values.now)))

pub print_function-returns : goal.print_function-returns
print_function-returns t c = four_appended _ _ _ _ _ _ _ _ _ _ c.in_ok-extend_from_slice.ensures.items c.in_ok-push.ensures.items c.in_ok-print_values.ensures c.in_ok-extend_from_slice-2.ensures.items
    (ap (λ e. c.args.name.now ++ ((40 ∷ []) ++ (ink_text (side_by_side comma (map value_ink c.args.arguments.now)) ++ e))) c.closing.ensures
    ∙ function_text c.args.name.now c.args.arguments.now (sym c.is_constant.ensures ∙ c.if-is_constant.false))
