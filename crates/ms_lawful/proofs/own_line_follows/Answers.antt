use Rattle.ms_lawful.specs.Problems.{problem_by}
use Rattle.ms_lawful.proofs.Listed.{own_follows}
use Rattle.ms_lawful.proofs.own_line_follows.Goals as goal

pub returns : goal.returns
returns c = λ tests before notes answer ending lawful ends.
    let own = own_follows (problem_by tests) before notes answer lawful ends.nothing_owed in
    (own.nogood, own.rest, own.truth, own.first, own.admitted, own.answers, own.contained)
