use Rattle.std.proofs.Common.{arith, below_more}
use Rattle.std.proofs.lemmas.Option.{slice_get_within}
use Rattle.ms_unfound.proofs.WaitLaws.{cared_at_still}
use Rattle.ms_unfound.proofs.marking.Marking.look_at_all.Goals as goal

pub loop-place-preserved : goal.loop-place-preserved
loop-place-preserved c =
    let made = c.in_ok-look.ensures.goes_on in (
      made.under_way,
      below_more _ _ (λ k less. cared_at_still c.args.trail.now.entries c.args.part.now.supports c.loop-place.self c.look.new.self k made.grows (c.loop-place.invariant.1 k less)) c.in_ok-look.ensures.cared,
    )

pub returns-clause-cared : goal.returns-clause-cared
returns-clause-cared c place support at =
    c.loop-place.invariant.1 place (let within = slice_get_within c.args.part.now.supports place support at in omega (arith, within, c.loop-place-test.false, c.len-place-end.ensures)) support at
