use Rattle.std.proofs.Common.{List, sym, subst}
use Rattle.ms_lits.specs.declared.lit.Lit.{Lit}
use Rattle.ms_search.specs.Points.{IsPoint}
use Rattle.ms_search.proofs.Moves.{point_made}
use Rattle.ms_search.proofs.Rounds.{point_propagated, ready_propagated}
use Rattle.ms_search.proofs.engine.Engine.round.Goals as goal

pub conflict-requires-clause-point : goal.conflict-requires-clause-point
conflict-requires-clause-point g c =
    subst (λ (ls : List Lit). IsPoint g.K.Target.problem (point_made c.propagate.new.self.trail ls c.args.store.now c.args.log.now.lines.items c.args.log.now.spent c.args.log.now.answers)) (sym c.propagate.ensures.decisions)
    (point_propagated g.K.Target.problem c.args.self.now.trail c.propagate.new.self.trail c.args.self.now.decisions.items c.args.store.now c.args.log.now.lines.items c.args.log.now.spent c.args.log.now.answers c.requires.point c.propagate.ensures.assignment c.propagate.ensures.propagates)

pub conflict-requires-clause-ready : goal.conflict-requires-clause-ready
conflict-requires-clause-ready g c =
    ready_propagated g.K.Target.problem g.K.Target.begun c.args.store.now c.args.self.now.trail c.propagate.new.self.trail (g.P.Propagate.attached c.args.self.now.propagation) (g.P.Propagate.attached c.propagate.new.self.propagation)
    (g.P.Propagate.InStep c.args.self.now.propagation c.args.store.now c.args.self.now.trail) (g.P.Propagate.InStep c.propagate.new.self.propagation c.args.store.now c.propagate.new.self.trail)
    (g.T.Theory.Seen c.args.theory.now) (g.T.Theory.vars c.args.theory.now) (g.T.Theory.leans_on c.args.theory.now) (g.T.Theory.Gives c.args.theory.now)
    c.requires.ready c.propagate.ensures.propagates c.propagate.ensures.attached c.propagate.ensures.in_step

pub advance-requires-clause-point : goal.advance-requires-clause-point
advance-requires-clause-point g c =
    subst (λ (ls : List Lit). IsPoint g.K.Target.problem (point_made c.propagate.new.self.trail ls c.args.store.now c.args.log.now.lines.items c.args.log.now.spent c.args.log.now.answers)) (sym c.propagate.ensures.decisions)
    (point_propagated g.K.Target.problem c.args.self.now.trail c.propagate.new.self.trail c.args.self.now.decisions.items c.args.store.now c.args.log.now.lines.items c.args.log.now.spent c.args.log.now.answers c.requires.point c.propagate.ensures.assignment c.propagate.ensures.propagates)

pub advance-requires-clause-ready : goal.advance-requires-clause-ready
advance-requires-clause-ready g c =
    ready_propagated g.K.Target.problem g.K.Target.begun c.args.store.now c.args.self.now.trail c.propagate.new.self.trail (g.P.Propagate.attached c.args.self.now.propagation) (g.P.Propagate.attached c.propagate.new.self.propagation)
    (g.P.Propagate.InStep c.args.self.now.propagation c.args.store.now c.args.self.now.trail) (g.P.Propagate.InStep c.propagate.new.self.propagation c.args.store.now c.propagate.new.self.trail)
    (g.T.Theory.Seen c.args.theory.now) (g.T.Theory.vars c.args.theory.now) (g.T.Theory.leans_on c.args.theory.now) (g.T.Theory.Gives c.args.theory.now)
    c.requires.ready c.propagate.ensures.propagates c.propagate.ensures.attached c.propagate.ensures.in_step
