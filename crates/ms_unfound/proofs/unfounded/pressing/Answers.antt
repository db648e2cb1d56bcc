use Rattle.std.proofs.Common.{◌∙◌, sym, subst}
use Rattle.std.specs.List.{All}
use Rattle.std.proofs.lemmas.List.{take_all}
use Rattle.std.proofs.lemmas.List.Elements.{All-more}
use Rattle.std.proofs.lemmas.Option.{MatchOption-at_none}
use Rattle.ms_unfound.specs.declared.part.Part.{Part}
use Rattle.ms_unfound.specs.Settled.{IsPressingLoop, IsSettledPart}
use Rattle.ms_unfound.proofs.WatchLaws.{at_item, still_settled}
use Rattle.ms_unfound.proofs.unfounded.pressing.Goals as goal

pub pressing_part-requires-clause-settled : goal.pressing_part-requires-clause-settled
pressing_part-requires-clause-settled c = λ flag. c.loop-place.invariant.0 c.loop-place.place c.index-parts-place.result (at_item c.args.parts.now c.loop-place.place c.index-parts-place.result c.loop-place-test.true c.index-parts-place.is) flag

pub returns-in_err-nogood-clause-settled : goal.returns-in_err-nogood-clause-settled
returns-in_err-nogood-clause-settled c =
    still_settled c.args.parts.now c.args.trail.now.entries c.loop-place.place c.index-parts-place.result c.loop-place.watch.settled c.pressing_part.new.watch.settled
    (at_item c.args.parts.now c.loop-place.place c.index-parts-place.result c.loop-place-test.true c.index-parts-place.is) c.pressing_part.ensures.settled c.loop-place.invariant.0

pub returns-in-Some-clause-settled : goal.returns-in-Some-clause-settled
returns-in-Some-clause-settled c =
    still_settled c.args.parts.now c.args.trail.now.entries c.loop-place.place c.index-parts-place.result c.loop-place.watch.settled c.pressing_part.new.watch.settled
    (at_item c.args.parts.now c.loop-place.place c.index-parts-place.result c.loop-place-test.true c.index-parts-place.is) c.pressing_part.ensures.settled c.loop-place.invariant.0

pub loop-place-preserved : goal.loop-place-preserved
loop-place-preserved c =
    let entries = c.args.trail.now.entries in
    let part = c.index-parts-place.result in
    let inv = c.loop-place.invariant in
    let settled : IsSettledPart part entries = MatchOption-at_none (IsSettledPart part entries) (IsPressingLoop part entries) c.in_default.is c.in_ok-nogood.ensures.found in (
      still_settled c.args.parts.now entries c.loop-place.place part c.loop-place.watch.settled c.pressing_part.new.watch.settled
          (at_item c.args.parts.now c.loop-place.place part c.loop-place-test.true c.index-parts-place.is) c.pressing_part.ensures.settled inv.0,
      All-more (λ (p : Part). IsSettledPart p entries) c.args.parts.now c.loop-place.place part c.loop-place-test.true inv.1 (subst (λ (p : Part). IsSettledPart p entries) c.index-parts-place.is settled),
      c.pressing_part.ensures.places ∙ inv.2,
      c.pressing_part.ensures.seen ∙ inv.3,
    )

pub returns-clause-found : goal.returns-clause-found
returns-clause-found c =
    subst (All (λ (p : Part). IsSettledPart p c.args.trail.now.entries)) (take_all c.loop-place.place c.args.parts.now c.loop-place-test.false) c.loop-place.invariant.1
