use Rattle.std.proofs.Common.{◌≡◌, ◌+◌, ◌<◌, ◌^◌, length}
use Rattle.ms_tree.specs.Size.{sizes}
use Rattle.ms_term.specs.Terms.{terms_at, held, AllBelow}
use Rattle.ms_term.proofs.terms.Terms.size_over.Given as goal

abbrev pub invariant-loop-rest : goal.invariant-loop-rest
invariant-loop-rest l = record {
  same : held (l.size + sizes (terms_at l.self l.rest)) ≡ held (1 + sizes (terms_at l.self l.fn.arguments));
  below : AllBelow (length l.self) l.rest;
  in_range : l.size < 2 ^ 64;
}

abbrev pub decreases-loop-rest : goal.decreases-loop-rest
decreases-loop-rest l = length l.rest
