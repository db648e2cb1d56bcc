use Rattle.std.proofs.Common.{◌≡◌, ◌++◌, [], ◌∷◌, map, drop, ◌+◌, ◌*◌}
use Rattle.ms_ast.specs.Ink.{ink_text}
use Rattle.ms_ast.specs.Terms.{printed, list_ink, lists_ink, alternatives_ink}
use Rattle.ms_ast.proofs.Inks.{texts_after}
use Rattle.ms_ast.proofs.Sizes.{term_size, terms_size, lists_size}
use Rattle.ms_ast.proofs.term.+print.Given as goal

abbrev pub decreases-print_term : goal.decreases-print_term
decreases-print_term l = 4 * term_size l.term.now + 1

abbrev pub decreases-print_inside : goal.decreases-print_inside
decreases-print_inside l = 4 * term_size l.term.now + 2

abbrev pub decreases-print_at : goal.decreases-print_at
decreases-print_at l = 4 * term_size l.term.now + 3

abbrev pub decreases-print_function : goal.decreases-print_function
decreases-print_function l = 4 * lists_size l.lists.now + 3

abbrev pub decreases-print_tuple : goal.decreases-print_tuple
decreases-print_tuple l = 4 * lists_size l.lists.now + 2

abbrev pub decreases-print_lists : goal.decreases-print_lists
decreases-print_lists l = 4 * lists_size l.lists.now + 2

abbrev pub decreases-print_list : goal.decreases-print_list
decreases-print_list l = 4 * terms_size l.terms.now + 1

abbrev pub decreases-print_alternatives : goal.decreases-print_alternatives
decreases-print_alternatives l = 4 * terms_size l.terms.now + 1

abbrev pub invariant-print_list-loop-term : goal.invariant-print_list-loop-term
invariant-print_list-loop-term l = l.into.items ++ texts_after l.between (44 ∷ []) (map (λ t. ink_text (printed t).ink) (drop l.term-index l.terms)) ≡ l.fn.into.items ++ ink_text (list_ink (map printed l.fn.terms))

abbrev pub invariant-print_alternatives-loop-term : goal.invariant-print_alternatives-loop-term
invariant-print_alternatives-loop-term l = l.into.items ++ texts_after l.between (59 ∷ []) (map (λ t. ink_text (printed t).inside) (drop l.term-index l.terms)) ≡ l.fn.into.items ++ ink_text (alternatives_ink (map printed l.fn.terms))

abbrev pub invariant-print_lists-loop-list : goal.invariant-print_lists-loop-list
invariant-print_lists-loop-list l = l.into.items ++ texts_after l.between (59 ∷ []) (map (λ ts. ink_text (list_ink (map printed ts))) (drop l.list-index l.lists)) ≡ l.fn.into.items ++ ink_text (lists_ink (map (map printed) l.fn.lists))
