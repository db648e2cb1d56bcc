use Rattle.std.proofs.Common.{ℕ, ◌≡◌}
use Rattle.ms_lits.specs.Assignment.{Assignment}
use Rattle.ms_nogood.specs.Store.{Store, ends, slot_at}
use Rattle.ms_search.proofs.Wires.{AreDetached}
use Rattle.ms_search.proofs.engine.Engine.detach_passing.Given as goal

abbrev pub invariant-loop-key : goal.invariant-loop-key
invariant-loop-key g l = record {
  detached : AreDetached (λ (key : ℕ). ends (slot_at l.store key)) l.key-items l.key-index (g.P.Propagate.attached l.initial.self.propagation) (g.P.Propagate.attached l.self.propagation);
  in_step : (at : Store) (trail : Assignment) → g.P.Propagate.InStep l.initial.self.propagation at trail → g.P.Propagate.InStep l.self.propagation at trail;
  same : l.self ≡ record l.initial.self { propagation = l.self.propagation };
}
