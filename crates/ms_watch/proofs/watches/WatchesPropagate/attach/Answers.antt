use Rattle.std.proofs.Common.{◌≡◌, ◌∙◌, length, sym, ap, subst, refl, set}
use Rattle.ms_watch.specs.declared.lists.Watch.{Watch}
use Rattle.ms_watch.specs.declared.state.State.{State}
use Rattle.ms_watch.specs.declared.state.State.TheVariants.{Loose}
use Rattle.ms_watch.specs.Links.{Links, IsGrown, added}
use Rattle.ms_watch.specs.Watches.{Watching, free, loose}
use Rattle.ms_watch.proofs.Steps.{step_attached}
use Rattle.ms_watch.proofs.watches.WatchesPropagate.attach.Goals as goal

pub returns-clause-in_step : goal.returns-clause-in_step
returns-clause-in_step c step can =
    let room : Watching = c.make_room.new.self in
    let v : Watching = record { links = c.self.inside.lists; keys = c.self.inside.keys.items; seen = c.self.inside.seen } in
    let view : v ≡ room = c.self.view_is in
    let watch : Watch = record { key = c.args.key; blocker = c.default.result } in
    let grown : Links = c.grow.new.self in
    let links : c.add-2.new.self ≡ added (added grown free watch) loose watch = c.in_ok-add-2.ensures ∙ ap (λ (l : Links). added l loose watch) c.in_ok-add.ensures in
    let new : Watching = record { links = c.add-2.new.self; keys = set c.self.inside.keys.items c.args.key Loose; seen = c.self.inside.seen } in
    let is : new ≡ record { links = added (added grown free watch) loose watch; keys = set room.keys c.args.key Loose; seen = room.seen } =
    ap (λ (l : Links). record { links = l; keys = set c.self.inside.keys.items c.args.key Loose; seen = c.self.inside.seen }) links
    ∙ ap (λ (u : Watching). record { links = added (added grown free watch) loose watch; keys = set u.keys c.args.key Loose; seen = u.seen }) view in
    step_attached c.args.self.now room grown new c.args.store.now c.args._trail.now c.args.key c.lists_for.result c.get.result.now watch
    c.in_ok-make_room.ensures (subst (λ (u : Watching). IsGrown u.links grown c.lists_for.result) view c.in_ok-grow.ensures) c.lists_for.ensures.least c.lists_for.ensures.all c.get.ensures c.requires.free refl is step
