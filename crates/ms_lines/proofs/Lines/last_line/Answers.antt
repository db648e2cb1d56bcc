use Rattle.std.proofs.Common.{sym, ◌∙◌, refl}
use Rattle.std.proofs.lemmas.Bool.{false≢true}
use Rattle.ms_lines.proofs.LineSteps.{at_end_pushed, said_after, err_after, ended_said, ended_err, ended_all, ended_shorter}
use Rattle.ms_lines.proofs.Lines.last_line.Goals as goal

pub returns-clause-said : goal.returns-clause-said
returns-clause-said c =
    said_after _ c.args.self.now (record { text = c.args.self.now.text; rest = c.push.new.self }) c.next_command.new.self
    (at_end_pushed _ _ (λ e. false≢true (sym c.if-is_empty.false ∙ c.is_empty.ensures.1 e)) c.requires refl c.in_ok-push.ensures.ok)
    (ended_said _ _ _ c.next_command.ensures.said)

pub returns-clause-err : goal.returns-clause-err
returns-clause-err c =
    err_after _ c.args.self.now (record { text = c.args.self.now.text; rest = c.push.new.self }) c.next_command.new.self
    (at_end_pushed _ _ (λ e. false≢true (sym c.if-is_empty.false ∙ c.is_empty.ensures.1 e)) c.requires refl c.in_ok-push.ensures.ok)
    (ended_err _ _ _ c.next_command.ensures.err)

pub returns-clause-all : goal.returns-clause-all
returns-clause-all c = ended_all _ _ _ _ c.in_ok-push.ensures.ok c.next_command.ensures.kept c.next_command.ensures.whole

pub returns-clause-shorter : goal.returns-clause-shorter
returns-clause-shorter c = ended_shorter _ _ _ _ c.in_ok-push.ensures.ok (λ e. false≢true (sym c.if-is_empty.false ∙ c.is_empty.ensures.1 e)) c.requires c.next_command.ensures.shorter
