use Rattle.ms_lawful.specs.Problems.{problem_by, true_atoms}
use Rattle.ms_lawful.proofs.Listed.{listed_from}
use Rattle.ms_lawful.proofs.Soundness.{complete_lists}
use Rattle.ms_lawful.proofs.complete_lists_all.Goals as goal

pub returns : goal.returns
returns c = λ tests notes truth lawful ends admitted kept meets.
    listed_from notes (true_atoms (problem_by tests) truth) (complete_lists (problem_by tests) truth notes admitted kept meets lawful ends)
