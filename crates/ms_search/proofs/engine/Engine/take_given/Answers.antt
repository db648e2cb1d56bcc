use Rattle.std.proofs.Common.{◌∷◌, ◌++◌, [], sym, subst}
use Rattle.ms_lits.specs.declared.note.Note.TheVariants as notes
use Rattle.ms_nogood.specs.declared.kind.Kind.TheVariants.{Reason}
use Rattle.ms_search.specs.Engines.{point_of}
use Rattle.ms_search.specs.Points.{IsStep}
use Rattle.ms_search.proofs.Rounds.{given_step, point_same, ready_taken}
use Rattle.ms_search.proofs.engine.Engine.take_given.Goals as goal

pub returns-clause-step : goal.returns-clause-step
returns-clause-step g c =
    let step = given_step g.K.Target.problem c.args.self.now.trail c.take.new.self.trail c.args.self.now.decisions.items c.take.new.self.decisions.items c.args.store.now c.take.new.store c.args.log.now.lines.items c.args.log.now.spent c.args.log.now.answers c.args.lits.now (g.T.Theory.vars c.args.theory.now) (g.T.Theory.Settled c.args.theory.now) (g.T.Theory.leans_on c.args.theory.now) (g.T.Theory.Gives c.args.theory.now) c.requires.point c.requires.settled c.requires.ready.theory c.requires.given c.in_ok-take.ensures.takes_in in
    let logged = c.in_ok-nogood.ensures in
    subst (IsStep g.K.Target.problem (point_of c.args.self.now c.args.store.now c.args.log.now))
    (sym (point_same c.take.new.self.trail c.take.new.self.decisions.items c.take.new.store c.nogood.new.self.lines.items (c.args.log.now.lines.items ++ notes.Theory c.args.lits.now ∷ []) c.nogood.new.self.spent c.args.log.now.spent c.nogood.new.self.answers c.args.log.now.answers logged.lines logged.spent logged.answers))
    step

pub returns-clause-ready : goal.returns-clause-ready
returns-clause-ready g c =
    ready_taken g.K.Target.problem g.K.Target.begun c.args.self.now.trail c.take.new.self.trail c.args.self.now.decisions.items c.take.new.self.decisions.items c.args.store.now c.take.new.store c.args.lits.now Reason
    (g.P.Propagate.attached c.args.self.now.propagation) (g.P.Propagate.attached c.take.new.self.propagation)
    (g.P.Propagate.InStep c.args.self.now.propagation c.args.store.now c.args.self.now.trail) (g.P.Propagate.InStep c.take.new.self.propagation c.take.new.store c.take.new.self.trail)
    (g.T.Theory.Seen c.args.theory.now) (g.T.Theory.Seen c.take.new.theory)
    (g.T.Theory.vars c.args.theory.now) (g.T.Theory.vars c.take.new.theory)
    (g.T.Theory.leans_on c.args.theory.now) (g.T.Theory.leans_on c.take.new.theory)
    (g.T.Theory.Gives c.args.theory.now) (g.T.Theory.Gives c.take.new.theory)
    (g.T.Theory.Settled c.args.theory.now) (g.T.Theory.Settled c.take.new.theory)
    c.requires.ready c.in_ok-take.ensures.takes_in (λ same. cc) c.in_ok-take.ensures.wired c.in_ok-take.ensures.in_step c.in_ok-take.ensures.seen c.in_ok-take.ensures.means
