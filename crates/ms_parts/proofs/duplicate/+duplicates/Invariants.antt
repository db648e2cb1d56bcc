use Rattle.std.proofs.Common.{◌≡◌, ◌+◌, ◌*◌, take}
use Rattle.ms_parts.proofs.duplicate.+duplicates.Given as goal

-- A list of lists is as deep as the lists in it, and these as their terms.
abbrev pub decreases-duplicate_term : goal.decreases-duplicate_term
decreases-duplicate_term l = 3 * goal.size-duplicate_term l

abbrev pub decreases-duplicate_inner : goal.decreases-duplicate_inner
decreases-duplicate_inner l = 3 * goal.size-duplicate_inner l + 1

abbrev pub decreases-duplicate_terms : goal.decreases-duplicate_terms
decreases-duplicate_terms l = 3 * goal.size-duplicate_terms l + 1

abbrev pub decreases-duplicate_lists : goal.decreases-duplicate_lists
decreases-duplicate_lists l = 3 * goal.size-duplicate_lists l + 2

abbrev pub invariant-duplicate_terms-loop-term : goal.invariant-duplicate_terms-loop-term
invariant-duplicate_terms-loop-term l = l.copy ≡ take l.term-index l.terms

abbrev pub invariant-duplicate_lists-loop-list : goal.invariant-duplicate_lists-loop-list
invariant-duplicate_lists-loop-list l = l.copy ≡ take l.list-index l.lists
