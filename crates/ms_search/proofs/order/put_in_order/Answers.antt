use Rattle.std.proofs.Common.{rules}
use Rattle.std.proofs.lemmas.List.Sorted.{IsNonDecreasingBy-from_sort_by_key}
use Rattle.ms_lits.specs.declared.lit.Lit.{Lit}
use Rattle.ms_search.proofs.Orders.{different_moved, rising_from}
use Rattle.ms_search.proofs.order.put_in_order.Goals as goal

pub returns-clause-rising : goal.returns-clause-rising
returns-clause-rising c =
    let sorted = c.sort_unstable_by_key.ensures in
    rising_from c.sort_unstable_by_key.new.self (different_moved c.args.lits.now c.sort_unstable_by_key.new.self sorted.permutation c.requires)
    (IsNonDecreasingBy-from_sort_by_key (λ (l : Lit). l.var) _ sorted.sorted (λ a r q k. search rules))
