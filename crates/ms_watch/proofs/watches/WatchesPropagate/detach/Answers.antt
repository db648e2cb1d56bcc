use Rattle.std.proofs.Common.{◌≡◌, ◌∙◌, List, set, ap}
use Rattle.std.specs.Vec.{with_item}
use Rattle.ms_watch.specs.declared.state.State.{State}
use Rattle.ms_watch.specs.declared.state.State.TheVariants.{Detached}
use Rattle.ms_watch.specs.Watches.{Watching}
use Rattle.ms_watch.proofs.Fates.{state_set, state_else}
use Rattle.ms_watch.proofs.Steps.{step_detached}
use Rattle.ms_watch.proofs.watches.WatchesPropagate.detach.Goals as goal

pub returns-clause-in_step : goal.returns-clause-in_step
returns-clause-in_step c store trail step =
    let w : Watching = c.args.self.now in
    let v : Watching = record { links = c.self.inside.lists; keys = c.self.inside.keys.items; seen = c.self.inside.seen } in
    let new : Watching = record { links = c.self.inside.lists; keys = (with_item c.self.inside.keys c.args.key Detached).items; seen = c.self.inside.seen } in
    let view : v ≡ w = c.self.view_is in
    let keys : new.keys ≡ set w.keys c.args.key Detached = ap (λ (u : Watching). set u.keys c.args.key Detached) view in
    step_detached w new store trail c.args.key (ap (λ (u : Watching). u.links) view) (ap (λ (u : Watching). u.seen) view)
    (state_set w.keys new.keys c.args.key Detached c.requires keys) (state_else w.keys new.keys c.args.key Detached keys) step
