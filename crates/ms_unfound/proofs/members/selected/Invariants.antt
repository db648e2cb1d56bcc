use Rattle.std.proofs.Common.{take}
use Rattle.std.specs.List.{Contains}
use Rattle.ms_unfound.specs.Members.{AreSelected}
use Rattle.ms_unfound.proofs.members.selected.Given as goal

abbrev pub invariant-loop-a : goal.invariant-loop-a
invariant-loop-a l = AreSelected l.cone (Contains l.rounds) (take l.a-index l.atoms) l.members
