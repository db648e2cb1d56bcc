use Rattle.ms_lawful.specs.Problems.{problem_by}
use Rattle.ms_lawful.proofs.Listed.{lines_listed}
use Rattle.ms_lawful.proofs.answers_are_listed_once.Goals as goal

pub returns : goal.returns
returns c = λ tests notes lawful. let listed = lines_listed (problem_by tests) notes lawful in (listed.members, listed.differ)
