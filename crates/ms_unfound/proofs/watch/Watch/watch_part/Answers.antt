use Rattle.std.proofs.Common.{List, ℕ, subst}
use Rattle.std.specs.List.{All, Contains}
use Rattle.ms_unfound.specs.declared.part.Support.{Support}
use Rattle.ms_unfound.specs.Watched.{places_at}
use Rattle.ms_unfound.proofs.WatchLaws.{watched_from}
use Rattle.ms_unfound.proofs.watch.Watch.watch_part.Goals as goal

pub returns-clause-watched : goal.returns-clause-watched
returns-clause-watched c =
    let before = c.watch_atoms.new.self.places.items in
    let lists = c.watch_bodies.new.self.places.items in
    let place = c.args.place in
    watched_from lists before c.args.part.now place c.watch_bodies.ensures.keeps
    (subst (All (λ (v : ℕ). Contains (places_at before v) place)) c.as_slice.ensures c.in_ok-watch_atoms.ensures.all)
    (subst (All (λ (s : Support). Contains (places_at lists s.body) place)) c.as_slice-2.ensures c.in_ok-watch_bodies.ensures.all)
