use Rattle.std.proofs.Common.{take}
use Rattle.ms_unfound.specs.Taking.{AreVars}
use Rattle.ms_unfound.proofs.taking.vars_of.Given as goal

abbrev pub invariant-loop-a : goal.invariant-loop-a
invariant-loop-a l = AreVars l.c.things (take l.a-index l.atoms) l.vars
