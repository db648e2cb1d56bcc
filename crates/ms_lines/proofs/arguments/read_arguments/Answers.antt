use Rattle.std.proofs.Common.{length, sym, subst}
use Rattle.ms_grammar.specs.Words.{words_of}
use Rattle.ms_lines.specs.Finding.{IsOnly, AreClosed}
use Rattle.ms_lines.proofs.ArgumentFronts.{arguments_none, arguments_some}
use Rattle.ms_lines.proofs.arguments.read_arguments.Goals as goal

pub returns-in-Some-clause-found : goal.returns-in-Some-clause-found
returns-in-Some-clause-found c =
    subst (λ values. IsOnly (AreClosed (words_of c.args.text.now c.args.tokens.now)) (values, length c.in-Some.after.now)) (sym c.new.ensures) (arguments_none c.args.text.now c.args.tokens.now _ c.in-Some.ensures)

pub returns-in-None-clause-found : goal.returns-in-None-clause-found
returns-in-None-clause-found c = arguments_some c.args.text.now c.args.tokens.now c.in-None.ensures _ c.read_some_arguments.ensures.found
