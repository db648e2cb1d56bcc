use Rattle.std.proofs.Common.{◌≡◌, ◌∙◌, length, sym, ap, refl}
use Rattle.ms_nogood.proofs.Propagation.{propagates_none, propagates_then}
use Rattle.ms_watch.proofs.Settling.{absent_settled, settling_begins, settling_ends, settling_in_step, settling_walks}
use Rattle.ms_watch.proofs.watches.Watches.settle.Goals as goal

pub returns-then-not-has_list-clause-propagates : goal.returns-then-not-has_list-clause-propagates
returns-then-not-has_list-clause-propagates c = propagates_none c.args.store.now c.args.trail.now c.args.trail.now refl

pub returns-then-not-has_list-clause-settled : goal.returns-then-not-has_list-clause-settled
returns-then-not-has_list-clause-settled c same = absent_settled c.args.self.now c.args.store.now c.args.trail.now c.requires.in_step (c.has_list.ensures.absent c.if-not-has_list.true)

pub loop-watch-init : goal.loop-watch-init
loop-watch-init c = record {
  propagates = propagates_none c.args.store.now c.args.trail.now c.args.trail.now refl;
  attached = λ key. refl;
  seen = refl;
  heads = refl;
  settling = settling_begins c.args.self.now c.begin.new.self c.args.store.now c.args.trail.now c.requires.in_step c.begin.ensures (c.has_list.ensures.there c.if-not-has_list.false);
}

pub put_back-requires-clause-walking : goal.put_back-requires-clause-walking
put_back-requires-clause-walking c = settling_walks (length c.args.trail.now.entries) c.settle_one.new.self c.args.store.now c.settle_one.new.trail (c.settle_one.ensures.settling (length c.args.trail.now.entries) c.loop-watch.invariant.settling)

pub returns-then-settle_one-clause-propagates : goal.returns-then-settle_one-clause-propagates
returns-then-settle_one-clause-propagates c = propagates_then c.args.store.now c.args.trail.now c.loop-watch.trail c.settle_one.new.trail c.loop-watch.invariant.propagates c.settle_one.ensures.propagates

pub loop-watch-preserved : goal.loop-watch-preserved
loop-watch-preserved c = record {
  propagates = propagates_then c.args.store.now c.args.trail.now c.loop-watch.trail c.settle_one.new.trail c.loop-watch.invariant.propagates c.settle_one.ensures.propagates;
  attached = λ key. c.settle_one.ensures.attached key ∙ c.loop-watch.invariant.attached key;
  seen = c.settle_one.ensures.seen ∙ c.loop-watch.invariant.seen;
  heads = c.settle_one.ensures.lists ∙ c.loop-watch.invariant.heads;
  settling = c.settle_one.ensures.settling (length c.args.trail.now.entries) c.loop-watch.invariant.settling;
}

pub returns-clause-in_step : goal.returns-clause-in_step
returns-clause-in_step c = settling_in_step (length c.args.trail.now.entries) c.loop-watch.self c.args.store.now c.loop-watch.trail c.loop-watch.invariant.settling c.in_default.ensures.none

pub returns-clause-settled : goal.returns-clause-settled
returns-clause-settled c same = settling_ends (length c.args.trail.now.entries) c.loop-watch.self c.args.store.now c.loop-watch.trail c.loop-watch.invariant.settling c.in_default.ensures.none same
