use Rattle.ms_watch.proofs.Fates.{blocker_small}
use Rattle.ms_watch.proofs.watches.Watches.judge.Goals as goal

pub is_false-requires : goal.is_false-requires
is_false-requires c = blocker_small c.args.lit c.args.self.now c.args.store.now c.args.trail.now c.args.watch c.requires.passing c.requires.front
