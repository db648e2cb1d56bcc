use Rattle.std.proofs.Common.{subst, sym}
use Rattle.std.proofs.lemmas.List.{take_all}
use Rattle.std.proofs.lemmas.List.Elements.{All-push}
use Rattle.std.specs.List.{Contains}
use Rattle.ms_ctxground.proofs.Front.{take_read}
use Rattle.ms_ctxground.proofs.Numbered.{AreFound-more, AreNumbersOf-from_found, Contains-from_slice_get}
use Rattle.ms_ctxground.proofs.numbers.numbers_of_all.Goals as goal

pub loop-name-preserved : goal.loop-name-preserved
loop-name-preserved c =
    let grown = take_read c.args.names.now c.loop-name.name-index c.name-item.result c.loop-name-test.true c.name-item.is in
    let place = c.in-Some.ensures in
    record {
      found = rw (grown, c.in_ok-push.ensures.items) (AreFound-more _ c.loop-name.invariant.found _ place);
      known = rw grown (All-push (Contains c.args.base.now) _ _ c.loop-name.invariant.known (Contains-from_slice_get _ _ _ place.there));
    }

pub returns : goal.returns
returns c =
    let all = take_all _ c.args.names.now c.loop-name-test.false in
    let found = rw all at c.loop-name.invariant.found in
    (rw all at c.loop-name.invariant.known, AreNumbersOf-from_found _ _ _ _ found c.each_once.ensures)

pub returns-in_default : goal.returns-in_default
returns-in_default c = λ all.
    c.in_default.ensures (subst (Contains c.args.base.now) (sym c.name-item.is) (all c.loop-name.name-index c.name-item.result c.loop-name-test.true))
