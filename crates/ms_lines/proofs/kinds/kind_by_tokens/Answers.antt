use Rattle.ms_lines.proofs.LineKinds.{add_alone, command_here, bad_here, is_add_word, is_add_alone, is_no_add}
use Rattle.std.proofs.Common.{subst}
use Rattle.ms_grammar.specs.Words.{words_of}
use Rattle.ms_call.specs.Commands.{IsSaid}
use Rattle.ms_lines.specs.Finding.{Finds}
use Rattle.ms_lines.proofs.kinds.kind_by_tokens.Goals as goal

pub returns-then-is_add : goal.returns-then-is_add
returns-then-is_add c = λ line has. add_alone line _ _ _ has (is_add_word c.args.word.now c.args.tokens.now _ c.is_add.ensures c.if-is_add.true) (is_add_alone c.args.word.now c.args.tokens.now _ c.is_add.ensures c.if-is_add.true)

pub returns-in-Some : goal.returns-in-Some
returns-in-Some c = λ line has. command_here line _ _ _ has _ (subst (Finds (IsSaid c.args.word.now (words_of c.args.text.now c.args.tokens.now))) c.in-Some.is c.in_ok-command.ensures)

pub returns-in-None : goal.returns-in-None
returns-in-None c = λ line has. bad_here line _ _ _ has (is_no_add c.args.word.now c.args.tokens.now _ c.is_add.ensures c.if-is_add.false) (subst (Finds (IsSaid c.args.word.now (words_of c.args.text.now c.args.tokens.now))) c.in-None.is c.in_ok-command.ensures)
