use Rattle.std.proofs.Common.{◌∙◌, ◌++◌, ◌∷◌, [], List, ℕ}
use Rattle.ms_unfound.proofs.WatchLaws.{keep_on, keep_push, keep_same}
use Rattle.ms_unfound.proofs.watch.make_room.Goals as goal

pub loop-alloc-preserved : goal.loop-alloc-preserved
loop-alloc-preserved c =
    let before = c.loop-alloc.lists.items in
    let pushed : List (List ℕ) = before ++ c.new.result ∷ [] in
    keep_on c.args.lists.now.items before c.push.new.self.items c.loop-alloc.invariant
    (keep_on before pushed c.push.new.self.items (keep_push before c.new.result) (keep_same pushed c.push.new.self.items c.in_ok-push.ensures.items))

pub returns-in_err-push-clause-keeps : goal.returns-in_err-push-clause-keeps
returns-in_err-push-clause-keeps c =
    keep_on c.args.lists.now.items c.loop-alloc.lists.items c.push.new.self.items c.loop-alloc.invariant (keep_same c.loop-alloc.lists.items c.push.new.self.items c.in_err-push.ensures.items)
