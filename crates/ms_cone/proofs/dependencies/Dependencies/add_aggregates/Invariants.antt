use Rattle.std.proofs.Common.{◌≡◌, take, Any}
use Rattle.ms_cone.specs.Dependencies.{Adds, NeedsInSigned}
use Rattle.ms_cone.proofs.dependencies.Dependencies.add_aggregates.Given as goal

abbrev pub invariant-loop-signed : goal.invariant-loop-signed
invariant-loop-signed l = Adds l.initial.self l.self (λ a b. (a ≡ l.head) × Any (NeedsInSigned b) (take l.signed-index l.aggs))
