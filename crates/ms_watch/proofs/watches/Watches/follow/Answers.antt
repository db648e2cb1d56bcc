use Rattle.std.proofs.Common.{◌≡◌, ◌<◌, ◌≤◌, ◌+◌, ◌∙◌, sym, ap, subst, refl, length, arith}
use Rattle.ms_nogood.specs.Propagation.{IsWithin}
use Rattle.ms_nogood.proofs.Propagation.{propagates_none, propagates_then}
use Rattle.ms_watch.specs.Watches.{Watching, is_attached, state_in}
use Rattle.ms_watch.proofs.Walking.{at_holds, step_advanced}
use Rattle.ms_watch.proofs.watches.Watches.follow.Goals as goal

pub loop-trail-init : goal.loop-trail-init
loop-trail-init c = record {
  propagates = propagates_none c.args.store.now c.args.trail.now c.args.trail.now refl;
  attached = λ key. refl;
  in_step = c.requires.in_step;
}

pub returns-in-Some-clause-propagates : goal.returns-in-Some-clause-propagates
returns-in-Some-clause-propagates c = propagates_then c.args.store.now c.args.trail.now c.loop-trail.trail c.walk.new.trail c.loop-trail.invariant.propagates c.walk.ensures.propagates

pub walk-requires-clause-holds : goal.walk-requires-clause-holds
walk-requires-clause-holds c =
    let below : c.seen-in-loop-trail.result < length c.loop-trail.trail.entries = omega (arith, c.seen.ensures, c.seen-in-loop-trail.ensures, c.len.ensures.len, c.loop-trail-test.true) in
    at_holds c.loop-trail.trail c.seen-in-loop-trail.result c.at-lit.result c.len.ensures.assignment below c.at-lit.ensures

pub loop-trail-preserved : goal.loop-trail-preserved
loop-trail-preserved c =
    let below : c.seen-in-loop-trail.result < length c.loop-trail.trail.entries = omega (arith, c.seen.ensures, c.seen-in-loop-trail.ensures, c.len.ensures.len, c.loop-trail-test.true) in
    let w : Watching = c.walk.new.self in
    record {
      propagates = propagates_then c.args.store.now c.args.trail.now c.loop-trail.trail c.walk.new.trail c.loop-trail.invariant.propagates c.walk.ensures.propagates;
      attached = λ key. ap (λ (u : Watching). is_attached (state_in u.keys key)) c.advance.ensures ∙ c.walk.ensures.attached key ∙ c.loop-trail.invariant.attached key;
      in_step = step_advanced w c.advance.new.self c.args.store.now c.loop-trail.trail c.walk.new.trail c.at-lit.result c.seen-in-loop-trail.result
          c.walk.ensures.propagates c.walk.ensures.in_step (c.walk.ensures.seen ∙ sym c.seen-in-loop-trail.ensures) below c.at-lit.ensures c.in_default.ensures.faced c.advance.ensures;
    }
