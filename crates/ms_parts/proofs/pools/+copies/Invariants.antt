use Rattle.std.proofs.Common.{◌≡◌, ◌+◌, ◌*◌, map, take}
use Rattle.std.specs.List.{flat_map}
use Rattle.ms_core.specs.Pools.{choices, copies}
use Rattle.ms_parts.proofs.pools.+copies.Given as goal

-- A list of lists is as deep as the lists in it, and these as their terms.
abbrev pub decreases-copies : goal.decreases-copies
decreases-copies l = 3 * goal.size-copies l

abbrev pub decreases-copies_of_alternatives : goal.decreases-copies_of_alternatives
decreases-copies_of_alternatives l = 3 * goal.size-copies_of_alternatives l + 1

abbrev pub decreases-copies_of_terms : goal.decreases-copies_of_terms
decreases-copies_of_terms l = 3 * goal.size-copies_of_terms l + 1

abbrev pub decreases-copies_of_lists : goal.decreases-copies_of_lists
decreases-copies_of_lists l = 3 * goal.size-copies_of_lists l + 2

abbrev pub invariant-copies_of_alternatives-loop-term : goal.invariant-copies_of_alternatives-loop-term
invariant-copies_of_alternatives-loop-term l = l.made.items ≡ flat_map (λ copies. copies) (map copies (take l.term-index l.terms))

abbrev pub invariant-copies_of_terms-loop-term : goal.invariant-copies_of_terms-loop-term
invariant-copies_of_terms-loop-term l = l.rows ≡ choices (map copies (take l.term-index l.terms))

abbrev pub invariant-copies_of_lists-loop-list : goal.invariant-copies_of_lists-loop-list
invariant-copies_of_lists-loop-list l = l.made.items ≡ flat_map choices (map (map copies) (take l.list-index l.lists))
