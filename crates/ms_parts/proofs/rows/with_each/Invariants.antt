use Rattle.std.proofs.Common.{◌≡◌, take}
use Rattle.ms_parts.specs.Rows.{extended}
use Rattle.ms_parts.proofs.rows.with_each.Given as goal

abbrev pub invariant-loop-row : goal.invariant-loop-row
invariant-loop-row g l = l.made ≡ extended (take l.row-index l.rows) l.items
