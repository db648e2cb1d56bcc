use Rattle.std.proofs.Common.{◌≡◌, ◌+◌, ◌*◌, map, take}
use Rattle.ms_core.specs.Replacing.{replaced}
use Rattle.ms_parts.specs.Meanings.{meant}
use Rattle.ms_parts.proofs.replace.+replaced.Given as goal

-- A list of lists is as deep as the lists in it, and these as their terms.
abbrev pub decreases-replaced : goal.decreases-replaced
decreases-replaced l = 3 * goal.size-replaced l

abbrev pub decreases-replaced_inner : goal.decreases-replaced_inner
decreases-replaced_inner l = 3 * goal.size-replaced_inner l + 1

abbrev pub decreases-replaced_terms : goal.decreases-replaced_terms
decreases-replaced_terms l = 3 * goal.size-replaced_terms l + 1

abbrev pub decreases-replaced_lists : goal.decreases-replaced_lists
decreases-replaced_lists l = 3 * goal.size-replaced_lists l + 2

abbrev pub invariant-replaced_terms-loop-term : goal.invariant-replaced_terms-loop-term
invariant-replaced_terms-loop-term l = l.made ≡ map (replaced (meant l.means)) (take l.term-index l.terms)

abbrev pub invariant-replaced_lists-loop-list : goal.invariant-replaced_lists-loop-list
invariant-replaced_lists-loop-list l = l.made ≡ map (map (replaced (meant l.means))) (take l.list-index l.lists)
