use Rattle.ms_lawful.specs.Lines.{nogoods_in}
use Rattle.ms_lawful.specs.Problems.{problem_by}
use Rattle.ms_lawful.proofs.Apart.{apart_differ, lines_apart}
use Rattle.ms_lawful.proofs.Counts.{lines_few}
use Rattle.ms_lawful.proofs.lines_are_few.Goals as goal

pub returns : goal.returns
returns c = λ tests notes lawful. (apart_differ (problem_by tests) (nogoods_in notes) (lines_apart (problem_by tests) notes lawful), lines_few (problem_by tests) notes lawful)
