use Rattle.std.proofs.Common.{take}
use Rattle.ms_search.proofs.Jumps.{AreReached}
use Rattle.ms_search.proofs.jump.jump_level.Given as goal

abbrev pub invariant-loop-lit : goal.invariant-loop-lit
invariant-loop-lit l = AreReached l.trail.entries (take l.lit-index l.lits) l.greatest l.second
