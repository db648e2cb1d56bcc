use Rattle.ms_lawful.specs.Problems.{problem_by}
use Rattle.ms_lawful.proofs.Listed.{temporary_answered}
use Rattle.ms_lawful.proofs.temporary_follows_answers.Goals as goal

pub returns : goal.returns
returns c = λ tests before rest nogood. temporary_answered (problem_by tests) before rest nogood
