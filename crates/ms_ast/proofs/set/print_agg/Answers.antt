use Rattle.std.proofs.Common.{[], ◌∷◌, ◌++◌, map, ap, ◌∙◌}
use Rattle.ms_ast.specs.Ink.{ink_text, side_by_side, semicolon_blank}
use Rattle.ms_ast.specs.Statements.{agg_element_ink, left_ink, right_ink}
use Rattle.ms_ast.proofs.FormTexts.{five_appended, agg_text}
use Rattle.ms_ast.proofs.set.print_agg.Goals as goal

pub returns : goal.returns
returns c = five_appended _ _ _ _ _ _ _ _ _ _ _ _ c.in_ok-print_left.ensures c.in_ok-extend_from_slice.ensures.items c.in_ok-print_agg_elements.ensures c.in_ok-push.ensures.items c.in_ok-print_right.ensures
    (ap (λ es. ink_text (left_ink c.args.agg.now.left) ++ (c.opening.result.now ++ (ink_text (side_by_side semicolon_blank (map agg_element_ink es)) ++ ((125 ∷ []) ++ ink_text (right_ink c.args.agg.now.right))))) c.as_slice.ensures
    ∙ agg_text c.args.agg.now c.opening.result.now c.opening.ensures)
