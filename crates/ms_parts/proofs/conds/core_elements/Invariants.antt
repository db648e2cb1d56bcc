use Rattle.std.proofs.Common.{◌≡◌, map, take}
use Rattle.ms_core.specs.CoreRules.{core_element}
use Rattle.ms_parts.proofs.conds.core_elements.Given as goal

abbrev pub invariant-loop-element : goal.invariant-loop-element
invariant-loop-element l = l.made ≡ map (core_element l.first) (take l.element-index l.elements)
