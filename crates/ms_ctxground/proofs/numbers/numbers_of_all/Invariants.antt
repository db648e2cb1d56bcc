use Rattle.std.proofs.Common.{take}
use Rattle.std.specs.List.{All, Contains}
use Rattle.ms_ctxground.proofs.Numbered.{AreFound}
use Rattle.ms_ctxground.proofs.numbers.numbers_of_all.Given as goal

abbrev pub invariant-loop-name : goal.invariant-loop-name
invariant-loop-name l = record {
  found : AreFound l.base (take l.name-index l.names) l.numbers.items;
  known : All (Contains l.base) (take l.name-index l.names);
}
