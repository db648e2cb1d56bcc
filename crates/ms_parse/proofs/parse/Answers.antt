use Rattle.ms_parse.proofs.PiecewiseLemmas.{read_up_to_more, statements_at_end, bad_line_at}
use Rattle.ms_parse.proofs.parse.Goals as goal

pub returns-in_default-2 : goal.returns-in_default-2
returns-in_default-2 c = bad_line_at _ _ _ _ c.loop-piece.invariant _ _ _ c.in-Some.ensures (rw c.in_default-2.is at c.in_ok-statement.ensures.only) c.line_of.ensures

pub loop-piece-preserved : goal.loop-piece-preserved
loop-piece-preserved c = rw c.in_ok-push.ensures.ok (read_up_to_more _ _ _ _ c.loop-piece.invariant _ _ _ c.in-Some.ensures (rw c.in-Some-2.is at c.in_ok-statement.ensures.spelled) (rw c.in-Some-2.is at c.in_ok-statement.ensures.only))

pub returns : goal.returns
returns c = statements_at_end _ _ _ _ c.loop-piece.invariant c.in_default.ensures
