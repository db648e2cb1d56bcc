use Rattle.std.proofs.Common.{◌≡◌, ◌++◌, [], ◌∷◌, map, drop}
use Rattle.ms_ast.specs.Ink.{word, ink_text, side_by_side, comma}
use Rattle.ms_grammar.specs.Words.{name}
use Rattle.ms_ast.proofs.Inks.{texts_after}
use Rattle.ms_ast.proofs.form.print_names.Given as goal

abbrev pub invariant-loop-name : goal.invariant-loop-name
invariant-loop-name l = l.into.items ++ texts_after l.between (44 ∷ []) (map (λ n. n) (drop l.name-index l.names)) ≡ l.fn.into.items ++ ink_text (side_by_side comma (map (λ n. word (name n) ∷ []) l.fn.names))
