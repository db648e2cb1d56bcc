use Rattle.std.proofs.Common.{take}
use Rattle.ms_complete.specs.Bases.{AddsExactly}
use Rattle.ms_complete.specs.Rules.{PartsSay}
use Rattle.ms_complete.proofs.nogoods.add_parts.Given as goal

abbrev pub invariant-loop-part : goal.invariant-loop-part
invariant-loop-part l = AddsExactly l.fn.store l.store (PartsSay l.number (take l.part-index l.parts))
