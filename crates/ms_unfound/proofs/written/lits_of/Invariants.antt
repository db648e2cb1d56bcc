use Rattle.std.proofs.Common.{◌≡◌, map, take}
use Rattle.ms_unfound.specs.Loops.{sign_at}
use Rattle.ms_unfound.proofs.written.lits_of.Given as goal

abbrev pub invariant-loop-var : goal.invariant-loop-var
invariant-loop-var l = l.lits ≡ map (sign_at l.atom) (take l.var-index l.vars)
