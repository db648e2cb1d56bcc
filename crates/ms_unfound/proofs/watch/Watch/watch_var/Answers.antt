use Rattle.std.proofs.Common.{set}
use Rattle.ms_unfound.proofs.WatchLaws.{has_pushed, keep_on, keep_pushed, keep_unchanged}
use Rattle.ms_unfound.proofs.watch.Watch.watch_var.Goals as goal

pub returns-in_err-push-clause-keeps : goal.returns-in_err-push-clause-keeps
returns-in_err-push-clause-keeps c =
    let lists = c.make_room.new.lists.items in
    keep_on c.args.self.now.places.items lists (set lists c.args.var c.push.new.self) c.make_room.ensures.keeps
    (keep_unchanged lists c.args.var c.index_mut.result.now c.in_ok-make_room.ensures.room c.index_mut.ensures.value c.push.new.self c.in_err-push.ensures.err)

pub returns-clause-keeps : goal.returns-clause-keeps
returns-clause-keeps c =
    let lists = c.make_room.new.lists.items in
    keep_on c.args.self.now.places.items lists (set lists c.args.var c.push.new.self) c.make_room.ensures.keeps
    (keep_pushed lists c.args.var c.index_mut.result.now c.in_ok-make_room.ensures.room c.index_mut.ensures.value c.push.new.self c.args.place c.in_ok-push.ensures.ok)

pub returns-clause-has : goal.returns-clause-has
returns-clause-has c =
    has_pushed c.make_room.new.lists.items c.args.var c.index_mut.result.now c.in_ok-make_room.ensures.room c.index_mut.ensures.value c.push.new.self c.args.place c.in_ok-push.ensures.ok
