use Rattle.std.proofs.Common.{◌≡◌, take}
use Rattle.ms_core.specs.Pools.{pairs_with}
use Rattle.ms_parts.proofs.rows.pairs_of_each.Given as goal

abbrev pub invariant-loop-first : goal.invariant-loop-first
invariant-loop-first g l = l.made ≡ pairs_with (λ x y. (x, y)) (take l.first-index l.firsts) l.seconds
