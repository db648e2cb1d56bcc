use Rattle.std.proofs.Common.{◌≡◌, ◌++◌, [], ◌∷◌, map, drop}
use Rattle.ms_ast.specs.Ink.{ink_text, side_by_side, semicolon_blank}
use Rattle.ms_ast.specs.Statements.{agg_element_ink}
use Rattle.ms_ast.proofs.Inks.{texts_after}
use Rattle.ms_ast.proofs.set.print_agg_elements.Given as goal

abbrev pub invariant-loop-element : goal.invariant-loop-element
invariant-loop-element l = l.into.items ++ texts_after l.between (59 ∷ 32 ∷ []) (map (λ v. ink_text (agg_element_ink v)) (drop l.element-index l.elements)) ≡ l.fn.into.items ++ ink_text (side_by_side semicolon_blank (map agg_element_ink l.fn.elements))
