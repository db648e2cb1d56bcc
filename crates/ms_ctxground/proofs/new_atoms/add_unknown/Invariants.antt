use Rattle.std.proofs.Common.{take}
use Rattle.ms_ctxground.specs.NewAtoms.{AreAdded}
use Rattle.ms_ctxground.proofs.new_atoms.add_unknown.Given as goal

abbrev pub invariant-loop-name : goal.invariant-loop-name
invariant-loop-name l = AreAdded l.base (take l.name-index l.names) l.initial.into.items l.into.items
