use Rattle.std.proofs.Common.{◌≡◌, length}
use Rattle.ms_watch.specs.Walks.{IsWalking, pending_in}
use Rattle.ms_watch.proofs.watches.Watches.put_back.Given as goal

abbrev pub invariant-loop-watch : goal.invariant-loop-watch
invariant-loop-watch l = record {
  walking : IsWalking l.list l.self l.store l.trail;
  keys : l.self.keys ≡ l.initial.self.keys;
  seen : l.self.seen ≡ l.initial.self.seen;
  heads : length l.self.links.heads ≡ length l.initial.self.links.heads;
}

abbrev pub decreases-loop-watch : goal.decreases-loop-watch
decreases-loop-watch l = pending_in l.self.links
