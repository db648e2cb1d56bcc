use Rattle.std.proofs.Common.{sym, subst}
use Rattle.std.specs.List.{All}
use Rattle.std.proofs.lemmas.List.Elements.{All-push}
use Rattle.ms_unfound_tests.specs.Tiny.{IsTinyRule}
use Rattle.ms_unfound_tests.proofs.module.rules_of.Goals as goal

pub loop-row-preserved : goal.loop-row-preserved
loop-row-preserved c = subst (All IsTinyRule) (sym c.in_ok-push.ensures.ok) (All-push IsTinyRule c.loop-row.rules c.in_ok-rule_of.field-0 c.loop-row.invariant c.in_ok-rule_of.ensures)
