use Rattle.std.proofs.Common.{◌≡◌, ℕ, List, true, false, sym, ap, ◌∙◌}
use Rattle.ms_core.specs.Texts.{is_name}
use Rattle.ms_texts.proofs.NamedValues.{value_found, value_further, value_nowhere}
use Rattle.ms_texts.proofs.values.value_in.Goals as goal

pub returns-then-eq : goal.returns-then-eq
returns-then-eq c =
    let named : is_name c.pair-item.result.0 c.args.name.now ≡ true = ap (λ (n : List ℕ). is_name n c.args.name.now) (sym c.as_slice.ensures) ∙ sym c.eq.ensures ∙ c.if-eq.true in
    sym (value_found c.args.values.now c.args.name.now c.loop-pair.pair-index c.pair-item.result c.loop-pair-test.true c.pair-item.is named) ∙ c.loop-pair.invariant

pub loop-pair-preserved : goal.loop-pair-preserved
loop-pair-preserved c =
    let named : is_name c.pair-item.result.0 c.args.name.now ≡ false = ap (λ (n : List ℕ). is_name n c.args.name.now) (sym c.as_slice.ensures) ∙ sym c.eq.ensures ∙ c.if-eq.false in
    sym (value_further c.args.values.now c.args.name.now c.loop-pair.pair-index c.pair-item.result c.loop-pair-test.true c.pair-item.is named) ∙ c.loop-pair.invariant

pub returns : goal.returns
returns c = sym (value_nowhere c.args.values.now c.args.name.now c.loop-pair.pair-index c.loop-pair-test.false) ∙ c.loop-pair.invariant
