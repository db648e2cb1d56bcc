use Rattle.std.proofs.Common.{take, ◌≡◌}
use Rattle.ms_cone.specs.Cones.{number_of}
use Rattle.ms_module.specs.Faults.{AreThose}
use Rattle.ms_module.proofs.loops.in_component_of.Given as goal

abbrev pub invariant-loop-b : goal.invariant-loop-b
invariant-loop-b l = AreThose (take l.b-index l.atoms) (λ b. number_of l.cone b ≡ number_of l.cone l.a) l.found.items
