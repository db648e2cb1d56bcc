use Rattle.ms_lawful.specs.Problems.{problem_by}
use Rattle.ms_lawful.proofs.Soundness.{temporary_rests}
use Rattle.ms_lawful.proofs.temporary_rests_on_answers.Goals as goal

pub returns : goal.returns
returns c = λ tests before rest truth nogood. temporary_rests (problem_by tests) before rest truth nogood
