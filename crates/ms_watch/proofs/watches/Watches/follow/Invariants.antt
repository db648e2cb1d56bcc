use Rattle.std.proofs.Common.{◌≡◌, ◌-◌, ℕ, length}
use Rattle.ms_nogood.specs.Propagation.{Propagates}
use Rattle.ms_watch.specs.Watches.{AreInStep, is_attached, state_in}
use Rattle.ms_watch.proofs.watches.Watches.follow.Given as goal

abbrev pub invariant-loop-trail : goal.invariant-loop-trail
invariant-loop-trail l = record {
  propagates : Propagates l.store l.initial.trail l.trail;
  attached : (key : ℕ) → is_attached (state_in l.self.keys key) ≡ is_attached (state_in l.initial.self.keys key);
  in_step : AreInStep l.self l.store l.trail;
}

abbrev pub decreases-loop-trail : goal.decreases-loop-trail
decreases-loop-trail l = l.trail.room - l.self.seen
