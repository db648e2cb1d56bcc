use Rattle.std.proofs.Common.{take}
use Rattle.ms_nogood.specs.Looks.{IsLook}
use Rattle.ms_nogood.proofs.scan.read_nogood.Given as goal

abbrev pub invariant-loop-lit : goal.invariant-loop-lit
invariant-loop-lit l = IsLook l.trail.entries (take l.lit-index l.lits) l.found
