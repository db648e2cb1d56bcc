use Rattle.std.proofs.Common.{◌≡◌, ◌++◌, [], ◌∷◌, map, drop}
use Rattle.ms_ast.specs.Ink.{ink_text}
use Rattle.ms_ast.specs.Statements.{part_ink, body_ink}
use Rattle.ms_ast.proofs.Inks.{texts_after}
use Rattle.ms_ast.proofs.rule.print_body.Given as goal

abbrev pub invariant-loop-part : goal.invariant-loop-part
invariant-loop-part l = l.into.items ++ texts_after l.between (44 ∷ 32 ∷ []) (map (λ v. ink_text (part_ink v)) (drop l.part-index l.body)) ≡ l.fn.into.items ++ ink_text (body_ink l.fn.body)
