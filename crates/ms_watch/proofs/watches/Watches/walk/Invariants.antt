use Rattle.std.proofs.Common.{◌≡◌, ℕ, length}
use Rattle.ms_nogood.specs.Propagation.{Propagates}
use Rattle.ms_watch.specs.Watches.{is_attached, state_in}
use Rattle.ms_watch.specs.Walks.{IsPassing, pending_in}
use Rattle.ms_watch.proofs.watches.Watches.walk.Given as goal

abbrev pub invariant-loop-watch : goal.invariant-loop-watch
invariant-loop-watch l = record {
  propagates : Propagates l.store l.initial.trail l.trail;
  attached : (key : ℕ) → is_attached (state_in l.self.keys key) ≡ is_attached (state_in l.initial.self.keys key);
  seen : l.self.seen ≡ l.initial.self.seen;
  heads : length l.self.links.heads ≡ length l.initial.self.links.heads;
  passing : IsPassing l.lit l.self l.store l.trail;
}

abbrev pub decreases-loop-watch : goal.decreases-loop-watch
decreases-loop-watch l = pending_in l.self.links
