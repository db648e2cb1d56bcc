use Rattle.std.proofs.Common.{◌≡◌, ◌-◌, ◌^◌, ◌≤◌, length}
use Rattle.std.specs.Prelude.{IfSome}
use Rattle.ms_join.specs.AnswerSets.{IsAtomSet}
use Rattle.ms_join.specs.Assumptions.{IsMeetingAnswer}
use Rattle.ms_answers.specs.Subsets.{tried_before}
use Rattle.ms_answers.proofs.Listed.{IsListed}
use Rattle.ms_answers.proofs.answer_sets.Given as goal

abbrev pub invariant-loop-candidate : goal.invariant-loop-candidate
invariant-loop-candidate l = record {
  listed : IsListed l.atoms (IsMeetingAnswer l.atoms l.join l.assume) (tried_before l.atoms l.candidate) l.sets;
  over_base : IfSome l.candidate (IsAtomSet l.atoms);
  few : length l.sets ≤ l.asked;
  room : l.scratch.atoms ≡ l.atoms;
  rules : length l.join.rules ≤ l.scratch.rules;
}

abbrev pub decreases-loop-candidate : goal.decreases-loop-candidate
decreases-loop-candidate l = 2 ^ l.atoms - tried_before l.atoms l.candidate
