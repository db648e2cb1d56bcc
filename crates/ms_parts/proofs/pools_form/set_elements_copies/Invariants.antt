use Rattle.std.proofs.Common.{◌≡◌, take}
use Rattle.std.specs.List.{flat_map}
use Rattle.ms_core.specs.Pools.{set_element_copies}
use Rattle.ms_parts.proofs.pools_form.set_elements_copies.Given as goal

abbrev pub invariant-loop-element : goal.invariant-loop-element
invariant-loop-element l = l.made.items ≡ flat_map set_element_copies (take l.element-index l.elements)
