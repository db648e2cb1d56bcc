use Rattle.std.proofs.Common.{◌≡◌, take}
use Rattle.ms_core.specs.CoreRules.{with_parts}
use Rattle.ms_parts.proofs.body.with_parts.Given as goal

abbrev pub invariant-loop-part : goal.invariant-loop-part
invariant-loop-part l = l.body ≡ with_parts l.first l.fn.body (take l.part-index l.parts)
