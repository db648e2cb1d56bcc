use Rattle.std.proofs.Common.{◌<◌, ◌≤◌, ◌+◌, ◌^◌, ◌*◌, take}
use Rattle.std.specs.Prelude.{All}
use Rattle.ms_watch.specs.Watches.{list_of, loose}
use Rattle.ms_watch.proofs.state.lists_for.Given as goal

abbrev pub invariant-loop-lit : goal.invariant-loop-lit
invariant-loop-lit l = record {
  least : loose < l.count;
  all : All (λ lit. list_of lit < l.count) (take l.lit-index l.lits);
}
