use Rattle.std.proofs.Common.{◌≡◌, take, Any}
use Rattle.ms_cone.specs.Dependencies.{Adds, NeedsInElement}
use Rattle.ms_cone.proofs.dependencies.Dependencies.add_elements.Given as goal

abbrev pub invariant-loop-element : goal.invariant-loop-element
invariant-loop-element l = Adds l.initial.self l.self (λ a b. (a ≡ l.head) × Any (NeedsInElement b) (take l.element-index l.elements))
