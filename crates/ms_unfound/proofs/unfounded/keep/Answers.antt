use Rattle.std.proofs.Common.{◌++◌, ◌∷◌, [], List, subst, sym}
use Rattle.ms_unfound.specs.declared.part.Part.{Part}
use Rattle.ms_unfound.specs.Watched.{AreSettled, AreWatched, IsWatchedAt, SettledBefore}
use Rattle.ms_unfound.proofs.WatchLaws.{settled_kept, settled_more, watched_kept, watched_more}
use Rattle.ms_unfound.proofs.unfounded.keep.Goals as goal

pub returns-in_err-watch_part-clause-watched : goal.returns-in_err-watch_part-clause-watched
returns-in_err-watch_part-clause-watched c = watched_kept c.args.watch.now.places.items c.watch_part.new.self.places.items c.args.parts.now c.watch_part.ensures.keeps c.requires.watched

pub returns-in_err-watch_part-clause-settled : goal.returns-in_err-watch_part-clause-settled
returns-in_err-watch_part-clause-settled c =
    settled_kept c.args.parts.now c.len.result c.args.watch.now.settled c.watch_part.new.self.settled c.args.watch.now.seen c.watch_part.new.self.seen c.watch_part.ensures.settled c.watch_part.ensures.seen c.requires.settled

pub returns-in_err-push-clause-watched : goal.returns-in_err-push-clause-watched
returns-in_err-push-clause-watched c =
    let places = c.watch_part.new.self.places.items in
    subst (AreWatched places) (sym c.in_err-push.ensures.err)
    (watched_kept c.args.watch.now.places.items places c.args.parts.now c.watch_part.ensures.keeps c.requires.watched)

pub returns-in_err-push-clause-settled : goal.returns-in_err-push-clause-settled
returns-in_err-push-clause-settled c =
    let new = c.watch_part.new.self in
    let old = c.args.watch.now in
    subst (λ (ps : List Part). AreSettled ps new.settled new.seen) (sym c.in_err-push.ensures.err)
    (settled_kept c.args.parts.now c.len.result old.settled new.settled old.seen new.seen c.watch_part.ensures.settled c.watch_part.ensures.seen c.requires.settled)

pub returns-clause-watched : goal.returns-clause-watched
returns-clause-watched c =
    let places = c.watch_part.new.self.places.items in
    subst (AreWatched places) (sym c.in_ok-push.ensures.ok)
    (watched_more c.args.watch.now.places.items places c.args.parts.now c.args.part c.watch_part.ensures.keeps c.requires.watched (subst (IsWatchedAt places c.args.part) c.len.ensures c.in_ok-watch_part.ensures.watched))

pub returns-clause-settled : goal.returns-clause-settled
returns-clause-settled c =
    let new = c.watch_part.new.self in
    let old = c.args.watch.now in
    subst (λ (ps : List Part). AreSettled ps new.settled new.seen) (sym c.in_ok-push.ensures.ok)
    (settled_more c.args.parts.now c.args.part old.settled new.settled old.seen new.seen (subst (λ n. SettledBefore n old.settled new.settled) c.len.ensures c.watch_part.ensures.settled) c.watch_part.ensures.seen c.requires.settled)
