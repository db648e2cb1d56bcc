use Rattle.std.specs.Cmp.{booleans_Decides}
use Rattle.std.proofs.lemmas.Slice.Eq.{slice_eq-Decides}
use Rattle.std.proofs.Common.{refl, arith}
use Rattle.ms_rules.proofs.AnswerSets.{IsAnswerSet-from_least, least_from_answer_set}
use Rattle.ms_rules.proofs.answer_test.is_stable.Goals as goal

pub returns : goal.returns
returns c =
    let join = c.args.join.now in
    let in_set = c.args.in_set.now in
    let derived = c.mark_least_model.new.derived in
    let equal = slice_eq-Decides booleans_Decides in_set derived c.eq.result c.eq.ensures in (
      λ e. IsAnswerSet-from_least join in_set derived (rw c.as_slice.ensures at (c.if-not-allows_each.ensures.0 refl)) c.if-not-mark_least_model.ensures (equal.0 e),
      λ answers. equal.1 (least_from_answer_set join in_set derived (omega arith) c.if-not-mark_least_model.ensures answers),
    )
