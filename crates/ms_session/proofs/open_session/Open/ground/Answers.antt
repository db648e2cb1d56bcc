use Rattle.std.proofs.Common.{take, ap, ◌∙◌}
use Rattle.ms_session.proofs.Stepping.{going_back}
use Rattle.ms_session.proofs.open_session.Open.ground.Goals as goal

pub returns-in-Refused : goal.returns-in-Refused
returns-in-Refused c =
    let mid = c.ground_and_join.new.self in
    going_back c.args.calls.now c.args.self.now c.requires mid c.back_to.new.self c.in-Refused.refusal c.ground_and_join.ensures.texts
    (rw c.in-Refused.is at c.in_ok-reply.ensures.back)
    (c.back_to.ensures ∙ ap (λ k. take k mid.terms) c.mark-mark.ensures)
    (rw c.in-Refused.is at c.in_ok-reply.ensures.step)
