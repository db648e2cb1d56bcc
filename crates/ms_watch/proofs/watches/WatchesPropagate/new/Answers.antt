use Rattle.std.proofs.Common.{refl}
use Rattle.ms_watch.specs.Watches.{Watching}
use Rattle.ms_watch.proofs.Steps.{step_new}
use Rattle.ms_watch.proofs.watches.WatchesPropagate.new.Goals as goal

pub returns-clause-in_step : goal.returns-clause-in_step
returns-clause-in_step c store trail empty level =
    let w : Watching = record { links = c.new.result; keys = c.new-2.result.items; seen = 0 } in
    step_new w store trail c.new.ensures.heads c.new-2.ensures.items refl empty
