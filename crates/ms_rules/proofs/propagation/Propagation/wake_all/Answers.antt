use Rattle.std.proofs.Common.{◌≤◌, sym, subst, length, ap, arith}
use Rattle.ms_rules.specs.contracts.propagation.Propagation.{the_view}
use Rattle.ms_rules.specs.State.{State}
use Rattle.ms_rules.specs.Waiting.{AllWait, Continues, IsSound, IsWaitedForByNone}
use Rattle.ms_rules.proofs.States.{kept_in_the_end}
use Rattle.ms_rules.proofs.Visits.{advances}
use Rattle.ms_rules.proofs.propagation.Propagation.wake_all.Goals as goal

pub loop-self-preserved : goal.loop-self-preserved
loop-self-preserved c =
    let join = c.args.join.now in
    let in_set = c.args.in_set.now in
    let atom = c.index-atom.result.now in
    let s : State = the_view c.self.inside in
    let mid : State = the_view c.self-in-loop-self.inside in
    let same = sym c.self.view_is in
    let sound : IsSound join in_set s = subst (IsSound join in_set) same c.loop-self.invariant.sound in
    let to_mid : Continues join in_set c.loop-self.self mid = subst (Continues join in_set c.loop-self.self) (sym c.self-in-loop-self.view_is) c.wake.ensures.kept in
    let kept : Continues join in_set s mid = subst (λ x. Continues join in_set x mid) same to_mid in
    let waiting : AllWait join in_set mid = subst (AllWait join in_set) (sym c.self-in-loop-self.view_is) c.if-not-wake.ensures.woken.0 in
    let none : IsWaitedForByNone mid atom = subst (λ x. IsWaitedForByNone x atom) (sym c.self-in-loop-self.view_is) c.if-not-wake.ensures.woken.1 in
    let after = advances join in_set atom s mid sound (omega arith) c.index-atom.ensures kept waiting none in
    record {
      sound = after.sound;
      size = omega (arith, after.size, ap (λ (x : State). length x.left) same, c.loop-self.invariant.size);
      waiting = after.waiting;
    }

pub returns-clause-closed : goal.returns-clause-closed
returns-clause-closed c =
    let s = c.loop-self.self in
    let done : s.queued ≤ s.taken = omega (arith, ap (λ (x : State). x.queued) c.self.view_is, ap (λ (x : State). x.taken) c.self.view_is) in
    kept_in_the_end c.args.join.now c.args.in_set.now s done c.loop-self.invariant.sound c.loop-self.invariant.waiting
