use Rattle.ms_answers.specs.Subsets.{place_of}
use Rattle.ms_answers.proofs.Carrying.{IsCarrying}
use Rattle.ms_answers.proofs.subsets.next_set.Given as goal

abbrev pub invariant-loop-number : goal.invariant-loop-number
invariant-loop-number l =
    IsCarrying l.atoms (place_of l.atoms l.initial.members.items) l.number l.members.items
