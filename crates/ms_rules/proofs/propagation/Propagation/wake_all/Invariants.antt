use Rattle.std.proofs.Common.{◌≡◌, ◌-◌, length}
use Rattle.ms_rules.specs.Waiting.{AllWait, IsSound}
use Rattle.ms_rules.proofs.propagation.Propagation.wake_all.Given as goal

abbrev pub invariant-loop-self : goal.invariant-loop-self
invariant-loop-self l = record {
  sound : IsSound l.join l.in_set l.self;
  size : length l.self.left ≡ length l.initial.self.left;
  waiting : AllWait l.join l.in_set l.self;
}

abbrev pub decreases-loop-self : goal.decreases-loop-self
decreases-loop-self l = length l.in_set - l.self.taken
