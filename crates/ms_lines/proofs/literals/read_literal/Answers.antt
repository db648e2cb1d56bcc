use Rattle.std.proofs.Common.{subst, sym}
use Rattle.ms_grammar.specs.Words.{words_of}
use Rattle.ms_call.specs.Commands.{IsLiteral}
use Rattle.ms_lines.specs.Finding.{Finds, IsFront}
use Rattle.ms_lines.proofs.LiteralFronts.{literal_behind_not, literal_without_not}
use Rattle.ms_lines.proofs.literals.read_literal.Goals as goal

pub returns-in_ok-read_atom-in-Some-clause-found : goal.returns-in_ok-read_atom-in-Some-clause-found
returns-in_ok-read_atom-in-Some-clause-found c =
    subst (Finds (IsFront IsLiteral (words_of c.args.text.now c.args.tokens.now))) (sym c.negated.ensures) (literal_behind_not c.args.text.now c.args.tokens.now _ c.in-Some.after.now c.in-Some.ensures c.in_ok-read_atom-in-Some.ensures.found)

pub returns-in_ok-read_atom-in-None-clause-found : goal.returns-in_ok-read_atom-in-None-clause-found
returns-in_ok-read_atom-in-None-clause-found c =
    subst (Finds (IsFront IsLiteral (words_of c.args.text.now c.args.tokens.now))) (sym c.plain.ensures) (literal_without_not c.args.text.now c.args.tokens.now _ c.in-None.ensures c.in_ok-read_atom-in-None.ensures.found)
