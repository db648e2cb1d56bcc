use Rattle.std.proofs.Common.{None}
use Rattle.ms_lines.proofs.LineSteps.{says_at_end, said_after, err_after, shorter_after}
use Rattle.ms_lines.proofs.Lines.end.Goals as goal

pub returns-in-NotYet-clause-said : goal.returns-in-NotYet-clause-said
returns-in-NotYet-clause-said c =
    said_after _ c.args.self.now c.next_command.new.self c.last_line.new.self (says_at_end _ _ None (rw c.in-NotYet.is at c.in_ok-fed.ensures.said)) c.last_line.ensures.said

pub returns-in-NotYet-clause-err : goal.returns-in-NotYet-clause-err
returns-in-NotYet-clause-err c =
    err_after _ c.args.self.now c.next_command.new.self c.last_line.new.self (says_at_end _ _ None (rw c.in-NotYet.is at c.in_ok-fed.ensures.said)) c.last_line.ensures.err

pub returns-in-NotYet-clause-shorter : goal.returns-in-NotYet-clause-shorter
returns-in-NotYet-clause-shorter c = shorter_after _ _ _ _ c.in_ok-fed.ensures.kept c.last_line.ensures.shorter
