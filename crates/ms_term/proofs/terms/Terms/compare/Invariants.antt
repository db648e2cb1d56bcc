use Rattle.std.proofs.Common.{◌≡◌, ◌<◌, length}
use Rattle.ms_tree.specs.Order.{compare_trees}
use Rattle.ms_term.specs.Terms.{term_at}
use Rattle.ms_term.proofs.terms.Terms.compare.Given as goal

abbrev pub invariant-loop-order : goal.invariant-loop-order
invariant-loop-order l = record {
  same : compare_trees (term_at l.self l.one) (term_at l.self l.other) ≡ compare_trees (term_at l.self l.fn.a) (term_at l.self l.fn.b);
  within : l.one < length l.self;
  other_within : l.other < length l.self;
}

abbrev pub decreases-loop-order : goal.decreases-loop-order
decreases-loop-order l = l.one
