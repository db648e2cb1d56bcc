use Rattle.std.proofs.Common.{◌≡◌, take}
use Rattle.ms_texts.proofs.duplicate.+duplicates.Given as goal

abbrev pub invariant-duplicate_values-loop-value : goal.invariant-duplicate_values-loop-value
invariant-duplicate_values-loop-value l = l.copy ≡ take l.value-index l.values
