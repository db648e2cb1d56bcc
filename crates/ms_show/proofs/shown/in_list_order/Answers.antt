use Rattle.std.proofs.Common.{rules, [], map, is_lt, sym, subst}
use Rattle.std.specs.Cmp.Lexicographic.{slice_cmp}
use Rattle.std.specs.List.Sorted.{IsSorted}
use Rattle.std.proofs.lemmas.Cmp.{lists_total}
use Rattle.std.proofs.lemmas.Fn.{always_returns_same}
use Rattle.std.proofs.lemmas.List.MinMax.{ranks_by}
use Rattle.ms_tree.specs.Order.{compare_trees}
use Rattle.ms_term.specs.Terms.{term_at}
use Rattle.ms_term.proofs.TotalOrder.{compare_trees_total}
use Rattle.ms_show.proofs.ListOrder.{IsSorted-map}
use Rattle.ms_show.proofs.shown.in_list_order.Goals as goal

pub returns-clause-ordered : goal.returns-clause-ordered
returns-clause-ordered c =
    let table = c.args.terms.now in
    let sorted = c.sort_unstable_by.ensures.sorted (λ a b. is_lt (slice_cmp compare_trees (map (term_at table) a) (map (term_at table) b))) (ranks_by (lists_total compare_trees_total) (map (term_at table))) (always_returns_same _ _ _ (λ a r f k. search rules)) in
    subst (λ xs. IsSorted (slice_cmp compare_trees) (map (map (term_at table)) xs)) (sym c.from_vec.ensures)
    (IsSorted-map (map (term_at table)) (slice_cmp compare_trees) c.sort_unstable_by.new.self.items [] sorted)
