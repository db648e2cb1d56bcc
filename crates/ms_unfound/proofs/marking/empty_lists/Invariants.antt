use Rattle.std.proofs.Common.{◌≡◌, length}
use Rattle.ms_unfound.proofs.marking.empty_lists.Given as goal

abbrev pub invariant-loop : goal.invariant-loop
invariant-loop l = length l.lists.items ≡ l.counter
