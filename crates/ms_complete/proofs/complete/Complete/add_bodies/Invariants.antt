use Rattle.std.proofs.Common.{ℕ, ◌<◌, ◌≤◌}
use Rattle.ms_complete.specs.Bases.{AddsExactly}
use Rattle.ms_complete.specs.Rules.{ThingSays}
use Rattle.ms_complete.proofs.complete.Complete.add_bodies.Given as goal

abbrev pub invariant-loop-number : goal.invariant-loop-number
invariant-loop-number l = AddsExactly l.fn.store l.store (λ n. (k : ℕ) × (l.known ≤ k) × (k < l.number) × ThingSays l.self.things k n)
