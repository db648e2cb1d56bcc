use Rattle.std.proofs.Common.{◌≡◌, take}
use Rattle.ms_session.proofs.solving.as_atoms.Given as goal

abbrev pub invariant-loop-answer : goal.invariant-loop-answer
invariant-loop-answer l = l.sets ≡ take l.answer-index l.fn.answers
