use Rattle.std.proofs.Common.{◌≡◌, ◌++◌, take}
use Rattle.ms_ctxground.proofs.module.add.Given as goal

abbrev pub invariant-loop-name : goal.invariant-loop-name
invariant-loop-name l = l.base ≡ l.initial.base ++ take l.name-index l.names
