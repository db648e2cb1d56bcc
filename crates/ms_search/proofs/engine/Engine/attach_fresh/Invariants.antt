use Rattle.std.proofs.Common.{ℕ, ◌≡◌}
use Rattle.std.specs.Prelude.{is_some}
use Rattle.ms_nogood.specs.Store.{slot_at}
use Rattle.ms_search.proofs.Wires.{AreWired}
use Rattle.ms_search.proofs.engine.Engine.attach_fresh.Given as goal

abbrev pub invariant-loop-key : goal.invariant-loop-key
invariant-loop-key g l = record {
  wired : AreWired (λ (key : ℕ). is_some (slot_at l.store key)) l.key-items l.key-index (g.P.Propagate.attached l.initial.self.propagation) (g.P.Propagate.attached l.self.propagation);
  in_step : g.P.Propagate.InStep l.self.propagation l.store l.self.trail;
  same : l.self ≡ record l.initial.self { propagation = l.self.propagation };
}
