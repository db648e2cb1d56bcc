use Rattle.std.proofs.Common.{take}
use Rattle.ms_complete.specs.Sets.{Writes}
use Rattle.ms_complete.proofs.written.written.Given as goal

abbrev pub invariant-loop-lit : goal.invariant-loop-lit
invariant-loop-lit l = Writes (take l.lit-index l.lits) l.nogood.items
