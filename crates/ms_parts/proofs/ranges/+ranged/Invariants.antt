use Rattle.std.proofs.Common.{◌+◌, ◌*◌, take}
use Rattle.ms_core.specs.Ranges.{all_ranged}
use Rattle.ms_parts.specs.Makers.{IsMade}
use Rattle.ms_parts.proofs.ranges.+ranged.Given as goal

-- Terms side by side are as deep as the deepest.
abbrev pub decreases-ranged : goal.decreases-ranged
decreases-ranged l = 2 * goal.size-ranged l

abbrev pub decreases-all_ranged : goal.decreases-all_ranged
decreases-all_ranged l = 2 * goal.size-all_ranged l + 1

abbrev pub invariant-all_ranged-loop-term : goal.invariant-all_ranged-loop-term
invariant-all_ranged-loop-term l = IsMade (all_ranged (take l.term-index l.terms)) l.first l.fn.ranges l.made l.ranges
