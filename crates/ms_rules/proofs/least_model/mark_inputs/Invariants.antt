use Rattle.std.proofs.Common.{take}
use Rattle.ms_rules.specs.Flags.{flag_at}
use Rattle.ms_rules.specs.LeastModel.{AreMarked}
use Rattle.ms_rules.proofs.least_model.mark_inputs.Given as goal

abbrev pub invariant-loop-input : goal.invariant-loop-input
invariant-loop-input l =
    AreMarked (take l.input-index l.inputs) (flag_at l.in_set) (flag_at l.derived)
