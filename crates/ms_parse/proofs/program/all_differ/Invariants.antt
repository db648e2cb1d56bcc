use Rattle.std.proofs.Common.{take}
use Rattle.ms_parse.proofs.Apart.{AreSeen}
use Rattle.ms_parse.proofs.program.all_differ.Given as goal

abbrev pub invariant-loop-name : goal.invariant-loop-name
invariant-loop-name l = AreSeen l.seen (take l.name-index l.names)
