use Rattle.std.proofs.Common.{ℕ, ◌<◌, ◌≤◌}
use Rattle.std.specs.List.{Contains}
use Rattle.ms_join.specs.Things.Thing.{atom}
use Rattle.ms_complete.specs.Numbering.{Declares, IsNewAtom}
use Rattle.ms_complete.proofs.complete.Complete.declare_atoms.Given as goal

abbrev pub invariant-loop-a : goal.invariant-loop-a
invariant-loop-a l = record {
  declares : Declares (IsNewAtom l.first l.count) l.fn.self l.self;
  all : (b : ℕ) → l.first ≤ b → b < l.a → Contains l.self.things (atom b);
}
