use Rattle.std.proofs.Common.{◌≡◌, ◌∙◌, Bool, List, ℕ, false, slice_index, subst, sym}
use Rattle.std.specs.Bool.{IsTrue}
use Rattle.std.proofs.lemmas.Result.{on_ok_weaker}
use Rattle.ms_join.specs.Sets.{has_all}
use Rattle.ms_unfound.specs.declared.marking.Marking.{Marking}
use Rattle.ms_unfound.specs.Marks.{flag_at}
use Rattle.ms_unfound.specs.Waiting.{GoesOn, IsCaredAt}
use Rattle.ms_unfound.proofs.WaitLaws.{marks_cared, marks_goes_on, waits_goes_on}
use Rattle.ms_unfound.proofs.marking.Marking.look.Goals as goal

pub returns-in-Some-awaited-clause-goes_on : goal.returns-in-Some-awaited-clause-goes_on
returns-in-Some-awaited-clause-goes_on c =
    on_ok_weaker c.wait.result
    (waits_goes_on c.args.trail.now.room c.args.part.now c.requires.part c.args.trail.now.entries c.args.place c.in-Some.support.now (sym c.in-Some.ensures) c.args.self.now c.requires.under_way c.wait.new.self
    (slice_index c.as_slice-inner.result.now c.in-Some-awaited.at))
    c.wait.ensures

pub returns-in-None-clause-goes_on : goal.returns-in-None-clause-goes_on
returns-in-None-clause-goes_on c =
    let m = c.args.self.now in
    let s = c.in-Some.support.now in
    let entries = c.args.trail.now.entries in
    let lacks = subst (λ (fs : List Bool). flag_at fs s.head ≡ false) c.as_slice.ensures (sym c.is_marked.ensures ∙ c.if-is_marked.false) in
    let all = subst (λ (is : List ℕ). IsTrue (has_all (flag_at m.marked) is)) c.as_slice-inner.ensures (subst (λ (fs : List Bool). IsTrue (has_all (flag_at fs) c.as_slice-inner.result.now)) c.as_slice-3.ensures c.in-None.ensures) in
    on_ok_weaker c.mark.result
    (λ is. subst (GoesOn entries c.args.part.now m) (sym is)
    (marks_goes_on c.args.trail.now.room c.args.part.now c.requires.part entries c.args.place s (sym c.in-Some.ensures) m c.requires.under_way (sym c.may_hold.ensures ∙ c.if-not-may_hold.false) lacks all))
    c.mark.ensures

pub returns-in-None-clause-cared : goal.returns-in-None-clause-cared
returns-in-None-clause-cared c =
    let m = c.args.self.now in
    let s = c.in-Some.support.now in
    let entries = c.args.trail.now.entries in
    let lacks = subst (λ (fs : List Bool). flag_at fs s.head ≡ false) c.as_slice.ensures (sym c.is_marked.ensures ∙ c.if-is_marked.false) in
    let all = subst (λ (is : List ℕ). IsTrue (has_all (flag_at m.marked) is)) c.as_slice-inner.ensures (subst (λ (fs : List Bool). IsTrue (has_all (flag_at fs) c.as_slice-inner.result.now)) c.as_slice-3.ensures c.in-None.ensures) in
    on_ok_weaker c.mark.result
    (λ is. subst (λ (n : Marking). IsCaredAt entries c.args.part.now.supports n c.args.place) (sym is)
    (marks_cared c.args.trail.now.room c.args.part.now c.requires.part entries c.args.place s (sym c.in-Some.ensures) m c.requires.under_way (sym c.may_hold.ensures ∙ c.if-not-may_hold.false) lacks all))
    c.mark.ensures
