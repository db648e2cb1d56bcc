use Rattle.std.proofs.Common.{◌≡◌, Some, vec_len}
use Rattle.ms_nogood.specs.Store.{slot_at}
use Rattle.ms_nogood.specs.declared.kind.Kind.TheVariants.{Temporary}
use Rattle.ms_search.specs.Engines.{point_of}
use Rattle.ms_search.specs.Points.{GoesOn, IsPoint, IsWired}
use Rattle.ms_search.proofs.engine.Engine.forget_needless.Given as goal

abbrev pub invariant-loop-key : goal.invariant-loop-key
invariant-loop-key g l = record {
  point : IsPoint g.K.Target.problem (point_of l.self l.store l.log);
  goes_on : GoesOn g.K.Target.begun l.store;
  newest : slot_at l.store l.newest ≡ Some (record { lits = l.own; kind = Some Temporary });
  wired : IsWired (g.P.Propagate.attached l.self.propagation) l.store;
  in_step : g.P.Propagate.InStep l.self.propagation l.store l.self.trail;
  trail : l.self.trail ≡ l.initial.self.trail;
  lines : l.log.lines.items ≡ l.initial.log.lines.items;
}

abbrev pub decreases-loop-key : goal.decreases-loop-key
decreases-loop-key g l = vec_len l.log.own
