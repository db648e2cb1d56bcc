use Rattle.std.proofs.Common.{arith}
use Rattle.ms_lawful.specs.Problems.{problem_by}
use Rattle.ms_lawful.proofs.Counts.{cut_spent, learned_count}
use Rattle.ms_lawful.proofs.learned_lines_are_counted.Goals as goal

pub returns : goal.returns
returns c = λ tests notes ending lawful ends.
    let count = learned_count (problem_by tests) notes lawful ends.nothing_owed in
    let within = ends.within in
    (omega (arith, count, within), (λ cut. let spent = cut_spent (problem_by tests) notes ending cut ends in omega (arith, count, spent)))
