use Rattle.ms_rules.specs.LeastModel.{IsMarking, unmarked_count}
use Rattle.ms_rules.specs.Flags.{flag_at}
use Rattle.ms_rules.proofs.least_model.mark_least_model.Given as goal

abbrev pub invariant-loop : goal.invariant-loop
invariant-loop l = IsMarking l.join (flag_at l.in_set) (flag_at l.derived)

abbrev pub decreases-loop : goal.decreases-loop
decreases-loop l = unmarked_count l.derived
