use Rattle.std.proofs.Common.{◌<◌, ℕ}
use Rattle.ms_unfound.specs.Marks.{IsBare}
use Rattle.ms_unfound.proofs.search.first_bare.Given as goal

abbrev pub invariant-loop-i : goal.invariant-loop-i
invariant-loop-i l = (k : ℕ) → k < l.i → ¬ IsBare l.trail.entries l.atoms l.marked k
