use Rattle.std.proofs.Common.{◌≡◌, map, take}
use Rattle.ms_parts.specs.Meanings.{replaced_set_element}
use Rattle.ms_parts.specs.Meanings.{meant}
use Rattle.ms_parts.proofs.replace_form.replaced_set_elements.Given as goal

abbrev pub invariant-loop-element : goal.invariant-loop-element
invariant-loop-element l = l.made ≡ map (replaced_set_element (meant l.means)) (take l.element-index l.elements)
