use Rattle.std.proofs.Common.{◌≡◌, ◌++◌, map}
use Rattle.ms_core.specs.Pools.{with_arguments}
use Rattle.ms_parts.proofs.pools.functions.Given as goal

abbrev pub invariant-loop-row : goal.invariant-loop-row
invariant-loop-row l = l.made ++ map (with_arguments l.name) l.row-iterator.rest.items ≡ map (with_arguments l.name) l.fn.rows
