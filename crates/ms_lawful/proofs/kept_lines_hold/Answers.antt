use Rattle.ms_lawful.specs.Lines.{kept_now}
use Rattle.ms_lawful.specs.Problems.{problem_by}
use Rattle.ms_lawful.proofs.Soundness.{store_sound}
use Rattle.ms_lawful.proofs.kept_lines_hold.Goals as goal

pub returns : goal.returns
returns c = λ tests notes truth nogood lawful admitted kept among has. store_sound (problem_by tests) truth notes admitted kept lawful nogood (kept_now among) has
