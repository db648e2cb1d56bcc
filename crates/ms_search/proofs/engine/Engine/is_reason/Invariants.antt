use Rattle.std.proofs.Common.{take}
use Rattle.std.specs.Prelude.{All}
use Rattle.ms_search.specs.Needless.{HasNoReason}
use Rattle.ms_search.proofs.engine.Engine.is_reason.Given as goal

abbrev pub invariant-loop-lit : goal.invariant-loop-lit
invariant-loop-lit g l = All (HasNoReason l.self.trail.entries l.key) (take l.lit-index l.lits)
