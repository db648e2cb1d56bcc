use Rattle.std.proofs.Common.{◌+◌, ◌<◌, length, arith}
use Rattle.ms_rules.specs.Flags.{flag_at}
use Rattle.ms_rules.proofs.States.{AreWaiting-enter}
use Rattle.ms_rules.proofs.Visits.{Continues-trans}
use Rattle.ms_rules.proofs.propagation.Propagation.visit_each.Goals as goal

pub loop-number-preserved : goal.loop-number-preserved
loop-number-preserved c =
    let number = c.loop-number.number in
    let short : number < length c.args.join.now.rules = omega arith in
    record {
      kept = Continues-trans c.args.join.now c.args.in_set.now c.args.self.now c.loop-number.self c.visit.new.self c.loop-number.invariant.kept c.visit.ensures.kept;
      waiting = c.visit.ensures.waiting (cc) (number + 1) (omega arith) (AreWaiting-enter c.args.join.now.rules (flag_at c.args.in_set.now) number c.loop-number.self short c.loop-number.invariant.waiting);
    }
