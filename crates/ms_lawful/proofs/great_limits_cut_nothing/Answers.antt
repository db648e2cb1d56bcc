use Rattle.ms_lawful.specs.Problems.{problem_by}
use Rattle.ms_lawful.proofs.Counts.{no_cut}
use Rattle.ms_lawful.proofs.great_limits_cut_nothing.Goals as goal

pub returns : goal.returns
returns c = λ tests notes. no_cut (problem_by tests) notes
