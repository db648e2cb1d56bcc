use Rattle.std.proofs.Common.{◌≡◌, ◌⊎◌, take}
use Rattle.std.specs.Prelude.{All}
use Rattle.ms_lits.specs.Assignment.{HoldsIn}
use Rattle.ms_watch.proofs.choice.replacement.Given as goal

abbrev pub invariant-loop-lit : goal.invariant-loop-lit
invariant-loop-lit l = All (λ lit. (lit ≡ l.other) ⊎ HoldsIn l.trail.entries lit) (take l.lit-index l.lits)
