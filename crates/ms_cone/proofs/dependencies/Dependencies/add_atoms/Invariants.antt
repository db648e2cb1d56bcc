use Rattle.std.proofs.Common.{◌≡◌, take, Contains}
use Rattle.ms_cone.specs.Dependencies.{Adds}
use Rattle.ms_cone.proofs.dependencies.Dependencies.add_atoms.Given as goal

abbrev pub invariant-loop-atom : goal.invariant-loop-atom
invariant-loop-atom l = Adds l.initial.self l.self (λ a b. (a ≡ l.head) × Contains (take l.atom-index l.atoms) b)
