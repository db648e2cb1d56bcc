use Rattle.std.proofs.Common.{take}
use Rattle.ms_watch.specs.Choices.{IsChoice}
use Rattle.ms_watch.proofs.choice.choose.Given as goal

abbrev pub invariant-loop-lit : goal.invariant-loop-lit
invariant-loop-lit l = IsChoice l.trail.entries (take l.lit-index l.lits) l.choice
