use Rattle.std.proofs.Common.{◌≡◌, take}
use Rattle.ms_core.specs.Ranges.{with_literals}
use Rattle.ms_parts.proofs.conds.with_literals.Given as goal

abbrev pub invariant-loop-literal : goal.invariant-loop-literal
invariant-loop-literal l = l.conds ≡ with_literals l.first l.fn.conds (take l.literal-index l.literals)
