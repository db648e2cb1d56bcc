use Rattle.std.proofs.Common.{[], ◌∷◌, ◌++◌, map, ap, ◌∙◌}
use Rattle.ms_ast.specs.Ink.{ink_text, side_by_side, semicolon_blank}
use Rattle.ms_ast.specs.Statements.{set_element_ink, left_ink, right_ink}
use Rattle.ms_ast.proofs.FormTexts.{five_appended, set_text}
use Rattle.ms_ast.proofs.set.print_set.Goals as goal

pub returns : goal.returns
returns c = five_appended _ _ _ _ _ _ _ _ _ _ _ _ c.in_ok-print_left.ensures c.in_ok-push.ensures.items c.in_ok-print_set_elements.ensures c.in_ok-push-2.ensures.items c.in_ok-print_right.ensures
    (ap (λ es. ink_text (left_ink c.args.set.now.left) ++ ((123 ∷ []) ++ (ink_text (side_by_side semicolon_blank (map set_element_ink es)) ++ ((125 ∷ []) ++ ink_text (right_ink c.args.set.now.right))))) c.as_slice.ensures
    ∙ set_text c.args.set.now)
