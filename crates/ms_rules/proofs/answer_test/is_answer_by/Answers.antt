use Rattle.ms_rules.proofs.AnswerSets.{answers_of_flags}
use Rattle.ms_rules.proofs.answer_test.is_answer_by.Goals as goal

pub returns-clause-exact : goal.returns-clause-exact
returns-clause-exact c =
    answers_of_flags c.args.join.now c.write_flags.new.flags c.args.set.now c.as_slice.result.now c.is_stable_by.result c.as_slice.ensures c.write_flags.ensures c.is_stable_by.ensures.exact
