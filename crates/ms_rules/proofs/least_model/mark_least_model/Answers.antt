use Rattle.ms_rules.specs.Flags.{flag_at}
use Rattle.ms_rules.proofs.Inputs.{IsMarking-inputs}
use Rattle.ms_rules.proofs.least_model.mark_least_model.Goals as goal

pub loop-init : goal.loop-init
loop-init c =
    IsMarking-inputs c.args.join.now (flag_at c.args.in_set.now) (flag_at c.mark_inputs.new.derived) c.as_slice.result.now c.as_slice.ensures c.mark_inputs.ensures
