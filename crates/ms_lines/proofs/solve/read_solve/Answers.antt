use Rattle.std.proofs.Common.{sym, subst}
use Rattle.ms_grammar.specs.Words.{words_of}
use Rattle.ms_call.specs.Commands.{IsAssume}
use Rattle.ms_lines.specs.Finding.{Finds}
use Rattle.ms_lines.proofs.SolveLemmas.{solve_all}
use Rattle.ms_lines.proofs.solve.read_solve.Goals as goal

pub returns : goal.returns
returns c =
    solve_all c.args.text.now c.args.tokens.now _ _ c.in-Some.ensures.cases.0 _ (sym c.in-Some-count_of.ensures) _ _ c.read_limit-limit.ensures.said _
    (subst (λ rest. Finds (IsAssume (words_of c.args.text.now rest)) c.in_ok-assume.assume) c.tokens_after.ensures c.in_ok-assume.ensures) _ c.solve.ensures
