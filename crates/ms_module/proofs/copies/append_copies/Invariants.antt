use Rattle.std.proofs.Common.{◌≡◌, ◌++◌, take}
use Rattle.ms_module.proofs.copies.append_copies.Given as goal

abbrev pub invariant-loop-rule : goal.invariant-loop-rule
invariant-loop-rule l = l.into ≡ l.initial.into ++ take l.rule-index l.rules
