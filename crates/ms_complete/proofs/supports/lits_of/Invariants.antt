use Rattle.std.proofs.Common.{◌≡◌, take}
use Rattle.ms_complete.specs.Rules.{head_lits}
use Rattle.ms_complete.proofs.supports.lits_of.Given as goal

abbrev pub invariant-loop-s : goal.invariant-loop-s
invariant-loop-s l = l.lits.items ≡ head_lits l.head (take l.s-index l.own)
