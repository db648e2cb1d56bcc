use Rattle.std.proofs.Common.{rules, ◌≡◌, w64, FitsSigned, inl, inr, refl, sym, ap, ◌∙◌}
use Rattle.std.proofs.lemmas.Int.{to_z-of_z}
use Rattle.std.proofs.lemmas.Result.{IfOk-weaker}
use Rattle.ms_copies.specs.InOrder.{integers, integers_within}
use Rattle.ms_value.specs.Walking.{Chooses, Enters}
use Rattle.ms_value.proofs.place.enter.Goals as goal

pub returns-in-Some-clause-ok : goal.returns-in-Some-clause-ok
returns-in-Some-clause-ok c =
    let low : FitsSigned w64 c.in-Some.low = search rules in
    let high : FitsSigned w64 c.in-Some.high = search rules in
    let chooses = simp to_z-of_z at c.choose.ensures.ok in
    let between : integers_within c.args.place.now.chosen.items c.args.range.now ≡ integers c.in-Some.low c.in-Some.high =
    ap (λ cs. integers_within cs c.args.range.now) (sym c.as_slice.ensures.value) ∙ c.in-Some.ensures.1 in
    IfOk-weaker c.choose.result (λ done. Chooses c.args.place.now c.choose.new.place c.in-Some.low c.in-Some.high) (λ done. Enters c.args.range.now c.args.place.now c.choose.new.place)
    (λ done p. inl (c.in-Some.low, c.in-Some.high, record { not_greater = c.in-Some.ensures.0; between = between; chooses = p })) chooses

pub returns-in-None-clause-ok : goal.returns-in-None-clause-ok
returns-in-None-clause-ok c = inr (record {
  none = ap (λ cs. integers_within cs c.args.range.now) (sym c.as_slice.ensures.value) ∙ c.in-None.ensures;
  chosen = refl;
  highs = refl;
  spent = refl;
})
