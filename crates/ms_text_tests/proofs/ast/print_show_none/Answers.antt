use Rattle.std.proofs.Common.{[], ◌∷◌, refl, arith}
use Rattle.ms_text.specs.declared.token.TokenKind.TheVariants.{Show, Dot}
use Rattle.ms_grammar.specs.declared.statement.Form.TheVariants.{ShowNone}
use Rattle.ms_grammar.specs.Words.{sign}
use Rattle.ms_grammar.specs.Statements.{show_none, alone}
use Rattle.ms_ast.specs.Law.{IsInGrammar}
use Rattle.ms_text_tests.proofs.ast.print_show_none.Goals as goal

show_none_in_grammar : IsInGrammar ShowNone
show_none_in_grammar = record {
  words = sign Show ∷ sign Dot ∷ [];
  names = tt;
  spells = record { sentence = show_none; words_are = refl; counts = alone ShowNone; spelled = refl; value_is = refl; few = omega arith };
}

pub print-requires : goal.print-requires
print-requires c = show_none_in_grammar
