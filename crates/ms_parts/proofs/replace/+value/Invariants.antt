use Rattle.std.proofs.Common.{◌≡◌, map, take}
use Rattle.ms_core.specs.Replacing.{value_term}
use Rattle.ms_parts.proofs.replace.+value.Given as goal

abbrev pub invariant-value_terms-loop-value : goal.invariant-value_terms-loop-value
invariant-value_terms-loop-value l = l.terms ≡ map value_term (take l.value-index l.values)
