use Rattle.ms_search.specs.Engines.{IsReady, point_of}
use Rattle.ms_search.specs.Points.{IsPoint, work}
use Rattle.ms_search.specs.Problems.{MeansTheSame}
use Rattle.ms_search.proofs.engine.Engine.search.Given as goal

abbrev pub invariant-loop-ending : goal.invariant-loop-ending
invariant-loop-ending g l = record {
  point : IsPoint g.K.Target.problem (point_of l.self l.store l.log);
  ready : IsReady g.K.Target.problem g.K.Target.begun l.store l.self.trail.entries (g.P.Propagate.attached l.self.propagation) (g.P.Propagate.InStep l.self.propagation l.store l.self.trail) (g.T.Theory.Seen l.theory) (g.T.Theory.vars l.theory) (g.T.Theory.leans_on l.theory) (g.T.Theory.Gives l.theory);
  means : MeansTheSame (g.T.Theory.vars l.initial.theory) (g.T.Theory.vars l.theory) (g.T.Theory.leans_on l.initial.theory) (g.T.Theory.leans_on l.theory) (g.T.Theory.Gives l.initial.theory) (g.T.Theory.Gives l.theory) (g.T.Theory.Settled l.initial.theory) (g.T.Theory.Settled l.theory);
}

abbrev pub decreases-loop-ending : goal.decreases-loop-ending
decreases-loop-ending g l = work g.K.Target.problem.things l.self.trail l.log.lines.items
