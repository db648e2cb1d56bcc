use Rattle.std.proofs.Common.{◌≡◌, map, length}
use Rattle.ms_copies.specs.Evaluating.{value, all_values}
use Rattle.ms_term.specs.Terms.{AllBelow}
use Rattle.ms_value.specs.Naming.{Keeps}
use Rattle.ms_value.proofs.Tables.{after}
use Rattle.ms_value.proofs.SideBySide.{values_from}
use Rattle.ms_value.proofs.evaluating.+evaluate.Given as goal

abbrev pub invariant-evaluate_all-loop-pattern : goal.invariant-evaluate_all-loop-pattern
invariant-evaluate_all-loop-pattern l = record {
  keeps : Keeps l.fn.terms l.terms;
  below : AllBelow (length l.terms) l.names.items;
  same : after l.terms l.names.items (values_from l.chosen l.patterns l.pattern-index) ≡ all_values (map (value l.chosen) l.patterns);
}
