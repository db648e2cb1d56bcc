use Rattle.std.proofs.Common.{◌≡◌, ◌<◌, ◌++◌, reverse, length, All}
use Rattle.ms_analyze.specs.Cuts.{lits_at}
use Rattle.ms_analyze.proofs.cut.Cut.learned.Given as goal

abbrev pub invariant-loop-place : goal.invariant-loop-place
invariant-loop-place l = record {
  rest : l.lits.items ++ lits_at l.trail.entries (reverse l.place-iterator.iter) ≡ l.initial.lits.items ++ lits_at l.trail.entries (reverse l.initial.place-iterator.iter);
  within : All (λ place. place < length l.trail.entries) l.place-iterator.iter;
}
