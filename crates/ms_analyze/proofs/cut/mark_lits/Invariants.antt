use Rattle.std.proofs.Common.{◌≡◌, drop}
use Rattle.ms_analyze.specs.Cuts.{marked}
use Rattle.ms_analyze.proofs.cut.mark_lits.Given as goal

abbrev pub invariant-loop-lit : goal.invariant-loop-lit
invariant-loop-lit l = marked l.trail.entries l.fixed l.below l.places.keys (drop l.lit-index l.lits) ≡ marked l.trail.entries l.fixed l.below l.initial.places.keys l.lits
