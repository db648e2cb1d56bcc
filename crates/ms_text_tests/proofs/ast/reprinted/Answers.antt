use Rattle.std.proofs.Common.{List, [], ◌∷◌, sym, subst}
use Rattle.std.proofs.lemmas.List.Elements.{All-nil, All-cons}
use Rattle.std.specs.Prelude.{All}
use Rattle.ms_grammar.specs.declared.statement.Statement.{Statement}
use Rattle.ms_ast.specs.Law.{IsInGrammar, AreInGrammar}
use Rattle.ms_ast.proofs.FromText.{statements_in_grammar}
use Rattle.ms_text_tests.proofs.ast.reprinted.Goals as goal

each_in_grammar : (statements : List Statement) → AreInGrammar statements → All (λ s. IsInGrammar s.form) statements
each_in_grammar [] are = All-nil (λ s. IsInGrammar s.form)
each_in_grammar (s ∷ ss) are = All-cons (λ s. IsInGrammar s.form) s ss are.0 (each_in_grammar ss are.1)

pub print_each-requires : goal.print_each-requires
print_each-requires c =
    subst (λ ss. All (λ s. IsInGrammar s.form) ss) (sym c.as_slice.ensures) (each_in_grammar _ (statements_in_grammar c.args.text.now _ _ c.in_ok-tokens.ensures.exact c.in_ok-statements.ensures.are))
