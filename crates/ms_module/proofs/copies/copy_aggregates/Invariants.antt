use Rattle.std.proofs.Common.{◌≡◌, take}
use Rattle.ms_module.proofs.copies.copy_aggregates.Given as goal

abbrev pub invariant-loop-signed : goal.invariant-loop-signed
invariant-loop-signed l = l.copies ≡ take l.signed-index l.aggs
