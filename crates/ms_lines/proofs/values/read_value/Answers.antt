use Rattle.std.proofs.Common.{subst, sym}
use Rattle.ms_grammar.specs.Words.{words_of}
use Rattle.ms_call.specs.Commands.{IsValue}
use Rattle.ms_lines.specs.Finding.{Finds, IsFront}
use Rattle.ms_lines.proofs.Fronts.{front_within}
use Rattle.ms_lines.proofs.ValueFronts.{value_found, is_value_some}
use Rattle.ms_lines.proofs.values.read_value.Goals as goal

pub returns-clause-found : goal.returns-clause-found
returns-clause-found c = subst (Finds (IsFront IsValue (words_of c.args.text.now c.args.tokens.now))) (sym c.ended.ensures) (value_found c.args.text.now c.args.tokens.now c.in_ok-found.found c.in_ok-found.ensures.read)

pub returns-clause-within : goal.returns-clause-within
returns-clause-within c =
    front_within IsValue is_value_some c.args.text.now c.args.tokens.now c.ended.result
    (subst (Finds (IsFront IsValue (words_of c.args.text.now c.args.tokens.now))) (sym c.ended.ensures) (value_found c.args.text.now c.args.tokens.now c.in_ok-found.found c.in_ok-found.ensures.read))
