use Rattle.std.proofs.Common.{◌≡◌, ℕ, length}
use Rattle.ms_tree.specs.Order.{compare_all}
use Rattle.ms_term.specs.Terms.{terms_at, AllBelow, AllDifferent}
use Rattle.ms_term.proofs.terms.Terms.compare_arguments.Given as goal

abbrev pub invariant-loop-rest : goal.invariant-loop-rest
invariant-loop-rest l = record {
  same : compare_all (terms_at l.self l.rest) (terms_at l.self l.others_rest) ≡ compare_all (terms_at l.self l.arguments) (terms_at l.self l.others);
  within : AllBelow (length l.self) l.rest;
  others_within : AllBelow (length l.self) l.others_rest;
  equally_long : length l.rest ≡ length l.others_rest;
  below : (n : ℕ) → AllBelow n l.arguments → AllBelow n l.rest;
  different : AllDifferent l.self;
}

abbrev pub decreases-loop-rest : goal.decreases-loop-rest
decreases-loop-rest l = length l.rest
