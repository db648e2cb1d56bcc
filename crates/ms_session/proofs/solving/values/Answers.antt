use Rattle.std.proofs.Common.{◌∙◌, ◌+◌, List, ap, subst, sym, take}
use Rattle.std.proofs.lemmas.List.{take_all}
use Rattle.ms_join.specs.declared.assumption.AtomLit.{AtomLit}
use Rattle.ms_join.specs.declared.ground_rule.Input.{Input}
use Rattle.ms_session.specs.Assuming.{AreExactly, IsValue}
use Rattle.ms_session.proofs.Gathering.{value_added, value_skipped}
use Rattle.ms_session.proofs.solving.values.Goals as goal
use Rattle.ms_session.proofs.solving.values.Goals.{in-Some+in_ok-push, in_default}

pub loop-input-preserved : goal.loop-input-preserved
loop-input-preserved c =
    let inputs = c.args.inputs.now in
    let next = IsValue (take (c.loop-input.input-index + 1) inputs) in
    elim c.match-input.branch [
      | in-Some+in_ok-push w ↦ subst (λ (lits : List AtomLit). AreExactly next lits) (sym (ap (λ v. v.items) w.lits-is ∙ w.in_ok-push.ensures.items))
          (value_added inputs c.loop-input.input-index c.input-item.result c.loop-input-test.true c.input-item.is c.loop-input.lits.items c.loop-input.invariant w.in-Some.truth w.in-Some.is)
      | in_default w ↦ subst (λ (lits : List AtomLit). AreExactly next lits) (sym (ap (λ v. v.items) w.lits-is))
          (value_skipped inputs c.loop-input.input-index c.input-item.result c.loop-input-test.true c.input-item.is c.loop-input.lits.items c.loop-input.invariant w.in_default.is)
    ]

pub returns : goal.returns
returns c =
    subst (λ (inputs : List Input). AreExactly (IsValue inputs) c.loop-input.lits.items)
    (take_all c.loop-input.input-index c.args.inputs.now c.loop-input-test.false) c.loop-input.invariant
