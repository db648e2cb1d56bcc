use Rattle.std.proofs.Common.{◌≡◌, take}
use Rattle.ms_parts.proofs.duplicate.duplicate_all.Given as goal

abbrev pub invariant-loop-item : goal.invariant-loop-item
invariant-loop-item g l = l.copy ≡ take l.item-index l.items
