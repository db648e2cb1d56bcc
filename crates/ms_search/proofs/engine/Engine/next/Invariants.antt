use Rattle.std.proofs.Common.{take}
use Rattle.std.specs.Prelude.{All}
use Rattle.ms_lits.specs.Assignment.{HoldsIn}
use Rattle.ms_search.proofs.engine.Engine.next.Given as goal

abbrev pub invariant-loop-lit : goal.invariant-loop-lit
invariant-loop-lit g l = All (HoldsIn l.self.trail.entries) (take l.lit-index l.demanded)
