use Rattle.ms_rules.proofs.Passing.{IsPassing}
use Rattle.ms_rules.proofs.least_model.pass.Given as goal

abbrev pub invariant-loop-rule : goal.invariant-loop-rule
invariant-loop-rule l =
    IsPassing l.join l.rule-index l.in_set l.initial.derived l.derived l.progress
