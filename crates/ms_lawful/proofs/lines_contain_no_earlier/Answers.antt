use Rattle.ms_lawful.specs.Problems.{problem_by}
use Rattle.ms_lawful.proofs.Apart.{lines_apart}
use Rattle.ms_lawful.proofs.lines_contain_no_earlier.Goals as goal

pub returns : goal.returns
returns c = λ tests notes lawful. let all = lines_apart (problem_by tests) notes lawful in (all.apart, all.outside)
