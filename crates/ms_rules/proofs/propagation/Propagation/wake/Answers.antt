use Rattle.std.proofs.Common.{◌<◌, ap, length, arith}
use Rattle.std.specs.Prelude.{sum}
use Rattle.ms_rules.specs.Waiting.{Continues}
use Rattle.ms_rules.proofs.Visits.{Continues-trans, Pops, Wakes, wakes}
use Rattle.ms_rules.proofs.propagation.Propagation.wake.Goals as goal

pub visit-requires-clause-rule : goal.visit-requires-clause-rule
visit-requires-clause-rule c =
    let pops : Pops c.in-Some.number c.args.atom c.loop-number.self c.pop.new.self = record { within = c.in-Some.ensures.0; first = c.in-Some.ensures.1; is = c.in-Some.ensures.2 } in
    let w : Wakes c.args.join.now c.args.in_set.now c.in-Some.number c.loop-number.self c.pop.new.self = wakes c.args.join.now c.args.in_set.now c.in-Some.number c.args.atom c.loop-number.self c.pop.new.self c.loop-number.invariant.kept.sound c.loop-number.invariant.waiting c.loop-number.invariant.marked pops in
    w.short

pub loop-number-smaller : goal.loop-number-smaller
loop-number-smaller c =
    let pops : Pops c.in-Some.number c.args.atom c.loop-number.self c.pop.new.self = record { within = c.in-Some.ensures.0; first = c.in-Some.ensures.1; is = c.in-Some.ensures.2 } in
    let w : Wakes c.args.join.now c.args.in_set.now c.in-Some.number c.loop-number.self c.pop.new.self = wakes c.args.join.now c.args.in_set.now c.in-Some.number c.args.atom c.loop-number.self c.pop.new.self c.loop-number.invariant.kept.sound c.loop-number.invariant.waiting c.loop-number.invariant.marked pops in
    let fewer : sum c.visit.new.self.left < sum c.pop.new.self.left = c.visit.ensures.fewer w.some w.is_marked in
    omega (arith, fewer, ap sum w.left)

pub loop-number-preserved : goal.loop-number-preserved
loop-number-preserved c =
    let join = c.args.join.now in
    let in_set = c.args.in_set.now in
    let pops : Pops c.in-Some.number c.args.atom c.loop-number.self c.pop.new.self = record { within = c.in-Some.ensures.0; first = c.in-Some.ensures.1; is = c.in-Some.ensures.2 } in
    let w : Wakes c.args.join.now c.args.in_set.now c.in-Some.number c.loop-number.self c.pop.new.self = wakes c.args.join.now c.args.in_set.now c.in-Some.number c.args.atom c.loop-number.self c.pop.new.self c.loop-number.invariant.kept.sound c.loop-number.invariant.waiting c.loop-number.invariant.marked pops in
    let kept : Continues join in_set c.loop-number.self c.visit.new.self = Continues-trans join in_set c.loop-number.self c.pop.new.self c.visit.new.self w.kept c.visit.ensures.kept in
    record {
      kept = Continues-trans join in_set c.args.self.now c.loop-number.self c.visit.new.self c.loop-number.invariant.kept kept;
      waiting = c.visit.ensures.waiting (cc) (length join.rules) w.short w.others;
      marked = kept.marks c.args.atom c.loop-number.invariant.marked;
    }
