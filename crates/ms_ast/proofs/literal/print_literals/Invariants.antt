use Rattle.std.proofs.Common.{◌≡◌, ◌++◌, [], ◌∷◌, map, drop}
use Rattle.ms_ast.specs.Ink.{ink_text, side_by_side, comma_blank}
use Rattle.ms_ast.specs.Statements.{literal_ink}
use Rattle.ms_ast.proofs.Inks.{texts_after}
use Rattle.ms_ast.proofs.literal.print_literals.Given as goal

abbrev pub invariant-loop-literal : goal.invariant-loop-literal
invariant-loop-literal l = l.into.items ++ texts_after l.between (44 ∷ 32 ∷ []) (map (λ v. ink_text (literal_ink v)) (drop l.literal-index l.literals)) ≡ l.fn.into.items ++ ink_text (side_by_side comma_blank (map literal_ink l.fn.literals))
