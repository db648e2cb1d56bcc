use Rattle.std.proofs.Common.{◌∙◌}
use Rattle.ms_unfound.proofs.WatchLaws.{seen_more, stay_on}
use Rattle.ms_unfound.proofs.watch.Watch.see.Goals as goal

pub returns-in_err-see_entry-clause-settled : goal.returns-in_err-see_entry-clause-settled
returns-in_err-see_entry-clause-settled c = stay_on c.args.self.now c.loop-place.self c.see_entry.new.self c.loop-place.invariant.1 c.loop-place.invariant.0 c.see_entry.ensures.settled

pub loop-place-preserved : goal.loop-place-preserved
loop-place-preserved c =
    let inv = c.loop-place.invariant in (
      stay_on c.args.self.now c.loop-place.self c.see_entry.new.self inv.1 inv.0 c.see_entry.ensures.settled,
      c.see_entry.ensures.places ∙ inv.1,
      seen_more c.args.trail.now.entries c.loop-place.self.seen c.see_entry.new.self.seen c.loop-place.place c.entry.result c.entry.ensures inv.2 c.in_ok-see_entry.ensures.seen,
    )
