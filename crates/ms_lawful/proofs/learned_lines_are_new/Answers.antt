use Rattle.ms_lawful.specs.Problems.{problem_by}
use Rattle.ms_lawful.proofs.Newness.{learned_new}
use Rattle.ms_lawful.proofs.learned_lines_are_new.Goals as goal

pub returns : goal.returns
returns c = λ tests before rest line nogood. learned_new (problem_by tests) before rest line nogood
