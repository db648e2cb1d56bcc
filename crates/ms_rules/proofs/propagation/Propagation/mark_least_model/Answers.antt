use Rattle.std.proofs.Common.{◌≡◌, ◌≤◌, length, refl, sym, subst, ap, arith}
use Rattle.ms_rules.specs.Flags.{flag_at}
use Rattle.ms_rules.specs.Waiting.{IsSized}
use Rattle.ms_rules.proofs.Inputs.{IsMarking-inputs}
use Rattle.ms_rules.proofs.States.{AreWaiting-none}
use Rattle.ms_rules.proofs.Visits.{IsSound-start}
use Rattle.ms_rules.proofs.propagation.Propagation.mark_least_model.Goals as goal

pub visit_each-requires-clause-sound : goal.visit_each-requires-clause-sound
visit_each-requires-clause-sound c =
    let join = c.args.join.now in
    let in_set = c.args.in_set.now in
    let new = c.reset.new.self in
    let length_left : length new.left ≡ length c.args.self.now.left = c.reset.ensures.sized.left in
    let sized : IsSized (length in_set) (length new.left) new = subst (λ n. IsSized (length in_set) n new) (sym length_left) c.reset.ensures.sized in
    IsSound-start join in_set new c.requires.over_base sized (omega (arith, length_left, c.requires.rules)) (IsMarking-inputs join (flag_at in_set) (flag_at new.derived) join.inputs refl c.reset.ensures.facts) c.reset.ensures.queued c.reset.ensures.left

pub visit_each-requires-clause-waiting : goal.visit_each-requires-clause-waiting
visit_each-requires-clause-waiting c =
    AreWaiting-none c.args.join.now.rules (flag_at c.args.in_set.now) c.reset.new.self (omega (arith, c.reset.ensures.taken)) c.reset.ensures.none_waits
