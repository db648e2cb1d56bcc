use Rattle.ms_complete.proofs.BodyLaws.{none_between, one_between, all_between}
use Rattle.std.proofs.Common.{arith}
use Rattle.ms_complete.proofs.complete.Complete.add_bodies.Goals as goal

pub loop-number-init : goal.loop-number-init
loop-number-init c = none_between c.args.self.now.things c.args.known c.args.store.now

pub loop-number-preserved : goal.loop-number-preserved
loop-number-preserved c =
    one_between c.args.self.now.things c.args.known c.loop-number.number c.args.store.now c.loop-number.store c.add_thing.new.store c.loop-number.auto.number c.loop-number.invariant c.in_ok-add_thing.ensures

pub returns-clause-adds : goal.returns-clause-adds
returns-clause-adds c =
    all_between c.args.self.now.things c.args.known c.loop-number.number c.args.store.now c.loop-number.store (omega (arith, c.loop-number-test.false, c.things-end.ensures.count)) c.loop-number.invariant
