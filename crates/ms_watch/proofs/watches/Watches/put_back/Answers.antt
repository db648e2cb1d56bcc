use Rattle.std.proofs.Common.{◌≡◌, ◌<◌, ◌∙◌, sym, ap, subst, refl, length}
use Rattle.ms_watch.specs.Links.{Links, relinked}
use Rattle.ms_watch.specs.Watches.{Watching, pending}
use Rattle.ms_watch.proofs.Linked.{none_is}
use Rattle.ms_watch.proofs.Walking.{goes_back, ends, relinked_heads}
use Rattle.ms_watch.proofs.watches.Watches.put_back.Goals as goal

pub loop-watch-preserved : goal.loop-watch-preserved
loop-watch-preserved c =
    let i = c.loop-watch.invariant in
    let w : Watching = c.loop-watch.self in
    let new : Watching = c.send.new.self in
    let links : new.links ≡ relinked w.links pending c.args.list c.in-Some.watch = ap (λ (u : Watching). u.links) c.send.ensures in
    let keys : new.keys ≡ w.keys = ap (λ (u : Watching). u.keys) c.send.ensures in
    let seen : new.seen ≡ w.seen = ap (λ (u : Watching). u.seen) c.send.ensures in
    let both = goes_back c.args.list w new c.args.store.now c.args.trail.now c.in-Some.watch i.walking c.in-Some.ensures.some links keys seen (subst (λ n. c.args.list < n) (sym i.heads) c.requires.there) c.requires.apart in
    record {
      walking = both.0;
      keys = keys ∙ i.keys;
      seen = seen ∙ i.seen;
      heads = relinked_heads w.links new.links pending c.args.list c.in-Some.watch links ∙ i.heads;
    }

pub loop-watch-smaller : goal.loop-watch-smaller
loop-watch-smaller c =
    let i = c.loop-watch.invariant in
    let w : Watching = c.loop-watch.self in
    let new : Watching = c.send.new.self in
    let links : new.links ≡ relinked w.links pending c.args.list c.in-Some.watch = ap (λ (u : Watching). u.links) c.send.ensures in
    let keys : new.keys ≡ w.keys = ap (λ (u : Watching). u.keys) c.send.ensures in
    let seen : new.seen ≡ w.seen = ap (λ (u : Watching). u.seen) c.send.ensures in
    let both = goes_back c.args.list w new c.args.store.now c.args.trail.now c.in-Some.watch i.walking c.in-Some.ensures.some links keys seen (subst (λ n. c.args.list < n) (sym i.heads) c.requires.there) c.requires.apart in
    both.1

pub returns-clause-in_step : goal.returns-clause-in_step
returns-clause-in_step c =
    let i = c.loop-watch.invariant in
    ends c.args.list c.loop-watch.self c.args.store.now c.args.trail.now i.walking.lists i.walking.have i.walking.kept (none_is c.loop-watch.self.links i.walking.lists pending i.walking.have c.in_default.ensures.none)
