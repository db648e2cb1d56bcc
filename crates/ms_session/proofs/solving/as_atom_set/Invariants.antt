use Rattle.std.proofs.Common.{◌≡◌, take}
use Rattle.ms_session.proofs.solving.as_atom_set.Given as goal

abbrev pub invariant-loop-number : goal.invariant-loop-number
invariant-loop-number l = l.set ≡ take l.number-index l.numbers
