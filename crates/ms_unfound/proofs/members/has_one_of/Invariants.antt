use Rattle.std.proofs.Common.{take}
use Rattle.ms_unfound.specs.Members.{HasOneOf}
use Rattle.ms_unfound.proofs.members.has_one_of.Given as goal

abbrev pub invariant-loop-a : goal.invariant-loop-a
invariant-loop-a l = ¬ HasOneOf l.cone l.number (take l.a-index l.atoms)
