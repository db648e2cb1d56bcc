use Rattle.std.proofs.Common.{◌≡◌, ◌++◌, [], ◌∷◌, map, drop}
use Rattle.ms_ast.specs.Ink.{ink_text, side_by_side, comma}
use Rattle.ms_ast.specs.Values.{value_ink}
use Rattle.ms_ast.proofs.Inks.{texts_after}
use Rattle.ms_ast.proofs.value.+print.Given as goal

abbrev pub invariant-print_values-loop-value : goal.invariant-print_values-loop-value
invariant-print_values-loop-value l = l.into.items ++ texts_after l.between (44 ∷ []) (map (λ v. ink_text (value_ink v)) (drop l.value-index l.values)) ≡ l.fn.into.items ++ ink_text (side_by_side comma (map value_ink l.fn.values))
