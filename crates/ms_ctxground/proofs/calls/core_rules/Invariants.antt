use Rattle.std.proofs.Common.{◌≡◌, take}
use Rattle.ms_solving.specs.Grounding.{core_of_calls}
use Rattle.ms_ctxground.proofs.calls.core_rules.Given as goal

abbrev pub invariant-loop-call : goal.invariant-loop-call
invariant-loop-call l = l.rules.items ≡ core_of_calls l.parts (take l.call-index l.calls)
