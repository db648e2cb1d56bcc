use Rattle.std.proofs.Common.{take}
use Rattle.ms_module.specs.Names.{names_of}
use Rattle.ms_module.proofs.Leasts.{IsBest}
use Rattle.ms_module.proofs.least.least.Given as goal

abbrev pub invariant-loop-a : goal.invariant-loop-a
invariant-loop-a l = IsBest (names_of l.terms l.base) l.atoms (take l.a-index l.atoms) l.best
