use Rattle.std.proofs.Common.{take}
use Rattle.std.specs.List.{AllZip}
use Rattle.ms_solver.specs.Numbered.{IsLitOf}
use Rattle.ms_solver.proofs.question.each_literal.Given as goal

abbrev pub invariant-loop-given : goal.invariant-loop-given
invariant-loop-given l = AllZip (IsLitOf l.numbers) (take l.given-index l.assume) l.lits.items
