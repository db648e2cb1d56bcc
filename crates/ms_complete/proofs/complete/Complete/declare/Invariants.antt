use Rattle.std.proofs.Common.{take, Contains}
use Rattle.std.specs.List.{All}
use Rattle.ms_join.specs.Things.Thing.{atom}
use Rattle.ms_complete.specs.Numbering.{Declares, IsAtomOf}
use Rattle.ms_complete.proofs.complete.Complete.declare.Given as goal

abbrev pub invariant-loop-a : goal.invariant-loop-a
invariant-loop-a l = record {
  declares : Declares (IsAtomOf l.atoms) l.fn.self l.self;
  all : All (λ a. Contains l.self.things (atom a)) (take l.a-index l.atoms);
}
