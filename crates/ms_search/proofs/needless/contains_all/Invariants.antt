use Rattle.std.proofs.Common.{take}
use Rattle.ms_lits.specs.Literals.{IsContained}
use Rattle.ms_search.proofs.needless.contains_all.Given as goal

abbrev pub invariant-loop-lit : goal.invariant-loop-lit
invariant-loop-lit l = IsContained l.lits (take l.lit-index l.small)
