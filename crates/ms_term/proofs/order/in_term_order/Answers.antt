use Rattle.std.proofs.Common.{◌∙◌, rules, is_lt}
use Rattle.std.proofs.lemmas.Fn.{always_returns_same}
use Rattle.std.proofs.lemmas.List.Filters.{dedup_is}
use Rattle.std.proofs.lemmas.List.Sorted.{ranks_by}
use Rattle.ms_tree.specs.Order.{compare_trees}
use Rattle.ms_term.specs.Terms.{term_at}
use Rattle.ms_term.proofs.TotalOrder.{compare_trees_total}
use Rattle.ms_term.proofs.TermSort.{IsInTermOrder-from_sort}
use Rattle.ms_term.proofs.order.in_term_order.Goals as goal

pub returns : goal.returns
returns c =
    let table = c.args.terms.now in
    let kept = c.from_vec.ensures ∙ dedup_is _ _ _ c.dedup.ensures.filtered in
    let sorted = c.sort_unstable_by.ensures.sorted (λ a b. is_lt (compare_trees (term_at table a) (term_at table b))) (ranks_by compare_trees_total (term_at table)) (always_returns_same _ _ _ (λ a r f k. search rules)) in
    rw kept (IsInTermOrder-from_sort table c.len.ensures.different c.args.names.items _ c.requires c.sort_unstable_by.ensures.permutation sorted)
