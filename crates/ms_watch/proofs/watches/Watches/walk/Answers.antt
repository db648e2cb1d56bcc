use Rattle.std.proofs.Common.{◌≡◌, ◌<◌, ◌⊎◌, ◌∙◌, sym, ap, subst, refl, length, List, arith}
use Rattle.ms_nogood.proofs.Propagation.{propagates_none, propagates_then}
use Rattle.ms_watch.specs.declared.lists.Watch.{Watch}
use Rattle.ms_watch.specs.Links.{Links, swapped}
use Rattle.ms_watch.specs.Watches.{Watching, pending, list_of, HasWatch, HasFalse}
use Rattle.ms_watch.specs.Walks.{IsPassing}
use Rattle.ms_watch.proofs.Linked.{none_is}
use Rattle.ms_watch.proofs.Walking.{begins, passing_begins, ends}
use Rattle.ms_watch.proofs.watches.Watches.walk.Goals as goal

pub returns-then-not-has_list-clause-propagates : goal.returns-then-not-has_list-clause-propagates
returns-then-not-has_list-clause-propagates c = propagates_none c.args.store.now c.args.trail.now c.args.trail.now refl

pub loop-watch-init : goal.loop-watch-init
loop-watch-init c =
    let w : Watching = c.args.self.now in
    let new : Watching = c.begin.new.self in
    let list : c.list_of-list.result ≡ list_of c.args.lit = c.list_of-list.ensures.list in
    let links : new.links ≡ swapped w.links (list_of c.args.lit) pending = ap (λ (u : Watching). u.links) c.begin.ensures ∙ ap (λ n. swapped w.links n pending) list in
    let keys : new.keys ≡ w.keys = ap (λ (u : Watching). u.keys) c.begin.ensures in
    let seen : new.seen ≡ w.seen = ap (λ (u : Watching). u.seen) c.begin.ensures in
    let there : list_of c.args.lit < length w.links.heads = subst (λ n. n < length w.links.heads) list (c.has_list.ensures.there c.if-not-has_list.false) in
    record {
      propagates = propagates_none c.args.store.now c.args.trail.now c.args.trail.now refl;
      attached = λ key. refl;
      seen = refl;
      heads = refl;
      passing = passing_begins c.args.lit w new c.args.store.now c.args.trail.now (begins (list_of c.args.lit) w new c.args.store.now c.args.trail.now c.requires.in_step links keys seen there (omega arith)) keys c.requires.holds;
    }

pub returns-then-pass-clause-propagates : goal.returns-then-pass-clause-propagates
returns-then-pass-clause-propagates c = propagates_then c.args.store.now c.args.trail.now c.loop-watch.trail c.pass.new.trail c.loop-watch.invariant.propagates c.pass.ensures.propagates

pub loop-watch-preserved : goal.loop-watch-preserved
loop-watch-preserved c = record {
  propagates = propagates_then c.args.store.now c.args.trail.now c.loop-watch.trail c.pass.new.trail c.loop-watch.invariant.propagates c.pass.ensures.propagates;
  attached = λ key. c.pass.ensures.attached key ∙ c.loop-watch.invariant.attached key;
  seen = c.pass.ensures.seen ∙ c.loop-watch.invariant.seen;
  heads = c.pass.ensures.lists ∙ c.loop-watch.invariant.heads;
  passing = c.pass.ensures.passing;
}

pub returns-clause-in_step : goal.returns-clause-in_step
returns-clause-in_step c =
    let p = c.loop-watch.invariant.passing in
    ends (list_of c.args.lit) c.loop-watch.self c.args.store.now c.loop-watch.trail p.lists p.have p.kept (none_is c.loop-watch.self.links p.lists pending p.have c.in_default.ensures.none)

pub returns-clause-faced : goal.returns-clause-faced
returns-clause-faced c key lits found watches =
    let p = c.loop-watch.invariant.passing in
    let none = none_is c.loop-watch.self.links p.lists pending p.have c.in_default.ensures.none in
    subst (λ (ws : List Watch). HasWatch ws key lits ⊎ HasFalse c.loop-watch.trail.entries lits) none (p.faced key lits found watches)
