use Rattle.ms_call.specs.declared.command.Command.TheVariants.{Add}
use Rattle.ms_session.proofs.Sealing.{done}
use Rattle.ms_session.proofs.session.Session.add.Goals as goal

pub returns-clause-ok : goal.returns-clause-ok
returns-clause-ok c =
    let s = c.self.inside in
    rw (← c.self.view_is)
    (done s.sealed c.seal_on_failure.new.sealed s.open c.begin.new.self c.add-reply.new.self (Add c.args.text.now) c.seal_on_failure.result c.add-reply.result
    c.seal_on_failure.ensures.same c.if-self.false c.seal_on_failure.ensures.sealed c.begin.ensures c.add-reply.ensures)
