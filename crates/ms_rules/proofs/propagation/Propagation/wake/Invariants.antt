use Rattle.std.proofs.Common.{IsTrue}
use Rattle.std.specs.Prelude.{sum}
use Rattle.ms_rules.specs.Flags.{flag_at}
use Rattle.ms_rules.specs.Waiting.{AllWait, Continues}
use Rattle.ms_rules.proofs.propagation.Propagation.wake.Given as goal

abbrev pub invariant-loop-number : goal.invariant-loop-number
invariant-loop-number l = record {
  kept : Continues l.join l.in_set l.initial.self l.self;
  waiting : AllWait l.join l.in_set l.self;
  marked : IsTrue (flag_at l.self.derived l.atom);
}

abbrev pub decreases-loop-number : goal.decreases-loop-number
decreases-loop-number l = sum l.self.left
