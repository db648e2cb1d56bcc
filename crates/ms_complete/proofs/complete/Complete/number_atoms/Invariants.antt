use Rattle.std.proofs.Common.{take}
use Rattle.ms_complete.specs.Numbering.{Declares, IsAtomOf}
use Rattle.ms_complete.specs.Rules.{IsAtomAt}
use Rattle.ms_complete.specs.Sets.{Match}
use Rattle.ms_complete.proofs.complete.Complete.number_atoms.Given as goal

abbrev pub invariant-loop-a : goal.invariant-loop-a
invariant-loop-a l = record {
  declares : Declares (IsAtomOf l.atoms) l.fn.self l.self;
  paired : Match (IsAtomAt l.self.things) (take l.a-index l.atoms) l.numbers.items;
}
