use Rattle.std.proofs.Common.{◌≡◌, map, length}
use Rattle.ms_term.specs.Terms.{AllBelow}
use Rattle.ms_solving.specs.Listing.{row, tree_of_value}
use Rattle.ms_session.proofs.Rows.{before, row_from}
use Rattle.ms_session.proofs.value_term.+find_term.Given as goal

abbrev pub invariant-find_terms-loop-value : goal.invariant-find_terms-loop-value
invariant-find_terms-loop-value l = record {
  below : AllBelow (length l.terms) l.names.items;
  same : before l.terms l.names.items (row_from l.values l.value-index) ≡ row (map tree_of_value l.values);
}
