use Rattle.std.proofs.Common.{◌≡◌, ◌++◌, map, take}
use Rattle.ms_core.specs.CoreRules.{core_choice}
use Rattle.ms_parts.proofs.core_rules.append_choices.Given as goal

abbrev pub invariant-loop-element : goal.invariant-loop-element
invariant-loop-element l = l.into ≡ l.fn.into ++ map (core_choice l.parts) (take l.element-index l.elements)
