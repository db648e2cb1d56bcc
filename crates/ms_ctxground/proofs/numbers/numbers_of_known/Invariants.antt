use Rattle.std.proofs.Common.{take}
use Rattle.ms_ctxground.proofs.Numbered.{AreFound}
use Rattle.ms_ctxground.proofs.numbers.numbers_of_known.Given as goal

abbrev pub invariant-loop-name : goal.invariant-loop-name
invariant-loop-name l = AreFound l.base (take l.name-index l.names) l.numbers.items
