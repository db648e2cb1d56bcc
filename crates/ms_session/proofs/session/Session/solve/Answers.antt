use Rattle.ms_call.specs.declared.command.Command.TheVariants.{Solve}
use Rattle.ms_session.proofs.Sealing.{done}
use Rattle.ms_session.proofs.session.Session.solve.Goals as goal

pub returns-clause-ok : goal.returns-clause-ok
returns-clause-ok c =
    let s = c.self.inside in
    rw (← c.self.view_is)
    (done s.sealed c.seal_on_failure.new.sealed s.open c.begin.new.self c.solve-reply.new.self (Solve c.args.count c.args.limit c.args.assume.now) c.seal_on_failure.result c.solve-reply.result
    c.seal_on_failure.ensures.same c.if-self.false c.seal_on_failure.ensures.sealed c.begin.ensures c.solve-reply.ensures)
