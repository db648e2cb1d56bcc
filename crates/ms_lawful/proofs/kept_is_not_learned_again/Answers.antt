use Rattle.ms_lawful.specs.Problems.{problem_by}
use Rattle.ms_lawful.proofs.Parts.{not_again}
use Rattle.ms_lawful.proofs.kept_is_not_learned_again.Goals as goal

pub returns : goal.returns
returns c = λ tests log notes nogood. not_again (problem_by tests) log notes nogood
