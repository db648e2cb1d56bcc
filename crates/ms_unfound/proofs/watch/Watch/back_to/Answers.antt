use Rattle.std.proofs.Common.{◌∙◌, ◌≤◌, ◌-◌, List, ap, arith, length, take}
use Rattle.std.proofs.lemmas.List.{take-take}
use Rattle.ms_unfound.proofs.WatchLaws.{stay_on}
use Rattle.ms_unfound.proofs.watch.Watch.back_to.Goals as goal

pub loop-self-preserved : goal.loop-self-preserved
loop-self-preserved c =
    let before = c.loop-self.self in
    let inv = c.loop-self.invariant in
    let fits : c.args.len ≤ length before.seen - 1 = omega (arith, c.loop-self-test.true, c.len.ensures) in (
      stay_on c.args.self.now before c.forget_last.new.self inv.1 inv.0 c.forget_last.ensures.settled,
      c.forget_last.ensures.places ∙ inv.1,
      ap (take c.args.len) c.forget_last.ensures.seen ∙ (take-take c.args.len (length before.seen - 1) before.seen fits ∙ inv.2),
    )
