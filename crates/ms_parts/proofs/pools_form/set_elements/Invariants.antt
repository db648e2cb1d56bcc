use Rattle.std.proofs.Common.{◌≡◌, ◌++◌, map}
use Rattle.ms_parts.specs.Sides.{set_element_of}
use Rattle.ms_core.specs.Pools.{pairs_with}
use Rattle.ms_parts.proofs.pools_form.set_elements.Given as goal

abbrev pub invariant-loop-atom : goal.invariant-loop-atom
invariant-loop-atom l = l.made ++ map set_element_of l.atom-iterator.rest.items ≡ pairs_with (λ x y. set_element_of (x, y)) l.fn.atoms l.fn.conds
