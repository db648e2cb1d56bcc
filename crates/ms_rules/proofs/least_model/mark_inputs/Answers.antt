use Rattle.std.proofs.Common.{◌<◌, length, subst, sym, arith}
use Rattle.ms_join.specs.declared.ground_rule.Input.{Input}
use Rattle.ms_rules.specs.Flags.{flag_at}
use Rattle.ms_rules.proofs.Inputs.{AreMarked-mark, AreMarked-keep}
use Rattle.ms_rules.proofs.least_model.mark_inputs.Goals as goal
use Rattle.ms_rules.proofs.least_model.mark_inputs.Goals.{in-Some, in_default}

pub loop-input-preserved : goal.loop-input-preserved
loop-input-preserved c =
    let inputs = c.args.inputs.now in
    let by = flag_at c.args.in_set.now in
    let i = c.loop-input.input-index in
    let input = c.input-item.result in
    let lt : i < length inputs = omega arith in
    let P : Input → Type 0 = λ j. j.atom < length c.args.derived.now in
    let within : P input = subst P (sym c.input-item.is) (c.requires.over_base i input lt) in
    elim c.match-fact_of.branch [
      | in-Some w ↦ AreMarked-mark inputs by c.loop-input.derived c.match-fact_of.derived i input w.in-Some.atom lt c.input-item.is (omega arith) w.in-Some.ensures (cc) c.loop-input.invariant
      | in_default w ↦ AreMarked-keep inputs by c.loop-input.derived c.match-fact_of.derived i input lt c.input-item.is w.in_default.ensures w.derived-is c.loop-input.invariant
    ]
