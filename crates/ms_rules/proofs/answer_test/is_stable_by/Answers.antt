use Rattle.std.specs.Cmp.{booleans_Decides}
use Rattle.std.proofs.lemmas.Slice.Eq.{slice_eq-Decides}
use Rattle.std.proofs.Common.{◌≡◌, length, refl, sym, subst, ap, arith}
use Rattle.ms_rules.specs.Flags.{flag_at}
use Rattle.ms_rules.specs.LeastModel.{IsLeastModel}
use Rattle.ms_rules.proofs.AnswerSets.{IsAnswerSet-from_least, least_from_answer_set}
use Rattle.ms_rules.proofs.answer_test.is_stable_by.Goals as goal

pub returns-clause-exact : goal.returns-clause-exact
returns-clause-exact c =
    let join = c.args.join.now in
    let in_set = c.args.in_set.now in
    let derived = c.derived.result.now in
    let least : IsLeastModel join (flag_at in_set) (flag_at derived) = subst (λ xs. IsLeastModel join (flag_at in_set) (flag_at xs)) (sym c.derived.ensures) c.if-not-mark_least_model.ensures.least in
    let lengths : length in_set ≡ length derived = omega (arith, ap length c.derived.ensures, c.mark_least_model.ensures.sized.derived) in
    let equal = slice_eq-Decides booleans_Decides in_set derived c.eq.result c.eq.ensures in (
      λ e. IsAnswerSet-from_least join in_set derived (rw c.as_slice.ensures at (c.if-not-allows_each.ensures.0 refl)) least (equal.0 e),
      λ answers. equal.1 (least_from_answer_set join in_set derived lengths least answers),
    )
