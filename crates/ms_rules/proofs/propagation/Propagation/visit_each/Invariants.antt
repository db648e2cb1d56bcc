use Rattle.ms_rules.specs.Flags.{flag_at}
use Rattle.ms_rules.specs.Waiting.{AreWaiting, Continues}
use Rattle.ms_rules.proofs.propagation.Propagation.visit_each.Given as goal

abbrev pub invariant-loop-number : goal.invariant-loop-number
invariant-loop-number l = record {
  kept : Continues l.join l.in_set l.initial.self l.self;
  waiting : AreWaiting l.join.rules (flag_at l.in_set) l.number l.number l.self;
}
