use Rattle.std.proofs.Common.{ℕ, ◌<◌, ◌≤◌, length}
use Rattle.std.specs.List.{All}
use Rattle.ms_complete_tests.specs.Programs.{HasNames}
use Rattle.ms_complete_tests.proofs.programs.take_all.Given as goal

abbrev pub invariant-loop-part : goal.invariant-loop-part
invariant-loop-part l = record {
  within : l.first ≤ length l.names;
  has : (terms : ℕ) → All (λ name. name < terms) l.names → HasNames l.first terms l.complete;
}
