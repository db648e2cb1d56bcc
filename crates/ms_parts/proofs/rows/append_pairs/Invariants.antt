use Rattle.std.proofs.Common.{◌≡◌, ◌++◌, map, take}
use Rattle.ms_parts.proofs.rows.append_pairs.Given as goal

abbrev pub invariant-loop-second : goal.invariant-loop-second
invariant-loop-second g l = l.into ≡ l.fn.into ++ map (λ y. (l.first, y)) (take l.second-index l.seconds)
