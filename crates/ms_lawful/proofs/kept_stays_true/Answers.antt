use Rattle.ms_lawful.specs.Problems.{problem_by}
use Rattle.ms_lawful.proofs.Parts.{kept_consequences}
use Rattle.ms_lawful.proofs.kept_stays_true.Goals as goal

pub returns : goal.returns
returns c = λ tests notes. kept_consequences (problem_by tests) notes
