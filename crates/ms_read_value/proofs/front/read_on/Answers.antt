use Rattle.ms_read_value.proofs.Tokens.{HasRead-end, HasRead-token}
use Rattle.ms_read_value.proofs.front.read_on.Goals as goal

pub returns-in_default-clause-value : goal.returns-in_default-clause-value
returns-in_default-clause-value c = HasRead-end _ _ _ _ _ c.loop-progress.invariant _ c.in-Within.is c.in_default.ensures.cases

pub loop-progress-preserved : goal.loop-progress-preserved
loop-progress-preserved c =
    HasRead-token _ _ _ _ _ c.loop-progress.invariant _ c.in-Within.is _ _ c.in-Some.ensures.cases.0 _ c.in_ok-lexeme_at-in-Within.ensures _ c.in_ok-progress-in-Within.ensures
