use Rattle.std.proofs.Common.{◌≡◌, take}
use Rattle.std.specs.Prelude.{filter}
use Rattle.ms_search.specs.Engines.{truth_in}
use Rattle.ms_search.proofs.engine.Engine.true_atoms.Given as goal

abbrev pub invariant-loop-atom : goal.invariant-loop-atom
invariant-loop-atom g l = l.answer.items ≡ filter (truth_in l.self.trail.entries) (take l.atom-index l.atoms)
