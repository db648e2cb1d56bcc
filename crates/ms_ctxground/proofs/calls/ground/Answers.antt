use Rattle.ms_ctxground.proofs.CoreHeads.{calls_headed}
use Rattle.ms_ctxground.proofs.calls.ground.Goals as goal

pub ground_rules-requires-clause-headed : goal.ground_rules-requires-clause-headed
ground_rules-requires-clause-headed c = rw (c.as_slice-3.ensures.value, c.in_ok-rules.ensures, c.as_slice.ensures) (calls_headed c.args.parts.now c.args.calls.now)
