use Rattle.std.proofs.Common.{◌≡◌, ◌++◌, length}
use Rattle.ms_tree.specs.Text.{escaped}
use Rattle.ms_term.specs.Fronts.{IsFrontOf}
use Rattle.ms_term.proofs.text.print_escaped.Given as goal

abbrev pub invariant-loop-rest : goal.invariant-loop-rest
invariant-loop-rest l = record {
  same : l.into.items ++ escaped l.rest ≡ l.fn.into.items ++ escaped l.fn.bytes;
  front : IsFrontOf l.fn.into.items l.into.items;
}

abbrev pub decreases-loop-rest : goal.decreases-loop-rest
decreases-loop-rest l = length l.rest
