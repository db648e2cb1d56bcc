use Rattle.std.proofs.Common.{◌≡◌, map, take}
use Rattle.ms_core.specs.CoreRules.{counted_element}
use Rattle.ms_parts.proofs.conds.counted_elements.Given as goal

abbrev pub invariant-loop-element : goal.invariant-loop-element
invariant-loop-element l = l.made ≡ map (counted_element l.first) (take l.element-index l.elements)
