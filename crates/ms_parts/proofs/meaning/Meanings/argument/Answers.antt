use Rattle.std.proofs.Common.{◌≡◌, ℕ, List, true, false, inl, inr, sym, ap, ◌∙◌}
use Rattle.ms_core.specs.Texts.{is_name}
use Rattle.ms_parts.proofs.NamedValues.{argument_here, argument_further, no_argument_left, no_value_left}
use Rattle.ms_parts.proofs.meaning.Meanings.argument.Goals as goal

pub returns-then-eq : goal.returns-then-eq
returns-then-eq c =
    let steps = c.in-Some.ensures.steps in
    let named : is_name c.in-Some.param.now c.args.name.now ≡ true = ap (λ (n : List ℕ). is_name n c.args.name.now) (sym c.as_slice.ensures) ∙ sym c.eq.ensures ∙ c.if-eq.true in
    sym (argument_here c.args.name.now c.in-Some.param.now c.in-Some.value.now c.loop-param.param-iterator.a.rest.now c.next.new.self.a.rest.now c.loop-param.param-iterator.b.rest.now c.next.new.self.b.rest.now steps.0 steps.1 named) ∙ c.loop-param.invariant

pub loop-param-preserved : goal.loop-param-preserved
loop-param-preserved c =
    let steps = c.in-Some.ensures.steps in
    let named : is_name c.in-Some.param.now c.args.name.now ≡ false = ap (λ (n : List ℕ). is_name n c.args.name.now) (sym c.as_slice.ensures) ∙ sym c.eq.ensures ∙ c.if-eq.false in
    sym (argument_further c.args.name.now c.in-Some.param.now c.in-Some.value.now c.loop-param.param-iterator.a.rest.now c.next.new.self.a.rest.now c.loop-param.param-iterator.b.rest.now c.next.new.self.b.rest.now steps.0 steps.1 named) ∙ c.loop-param.invariant

pub returns : goal.returns
returns c = elim c.in-None.ensures.steps [
  | inl e ↦ sym (no_argument_left c.args.name.now c.loop-param.param-iterator.a.rest.now c.loop-param.param-iterator.b.rest.now e.1.0) ∙ c.loop-param.invariant
  | inr e ↦ sym (no_value_left c.args.name.now c.loop-param.param-iterator.a.rest.now c.loop-param.param-iterator.b.rest.now e.1.0) ∙ c.loop-param.invariant
]
