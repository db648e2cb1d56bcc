use Rattle.std.proofs.Common.{◌≡◌, map, take}
use Rattle.ms_solver.specs.Numbered.{atoms_of}
use Rattle.ms_solver.proofs.told.as_sets.Given as goal

abbrev pub invariant-loop-answer : goal.invariant-loop-answer
invariant-loop-answer l = l.sets ≡ map (atoms_of l.numbers) (take l.answer-index l.answers)
